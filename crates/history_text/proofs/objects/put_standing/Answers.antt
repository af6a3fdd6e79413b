-- The number of the withdrawn statement.
use Rattle.std.proofs.Common.{◌≡◌, ◌++◌, ℕ, ap, rules, subst, sym, ◌∙◌, Option, Some}
use Rattle.std.specs.Prelude.{OnOk}
use Rattle.history_text.specs.Objects.{standing_members}
use Rattle.history_text.proofs.objects.put_standing.Goals as goal

pub returns-in-Some : goal.returns-in-Some
returns-in-Some c =
    let from_is : c.from.result ≡ c.in-Some.number = search rules in
    let gone_is : Some c.from.result ≡ c.args.gone = ap (λ (n : ℕ). Some n) from_is ∙ sym c.in-Some.is in
    subst (λ (gone : Option ℕ). OnOk c.put_counted.result (c.put_counted.new.out ≡ c.args.out.now ++ standing_members gone)) gone_is c.put_counted.ensures.ok
