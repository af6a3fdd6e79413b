-- The day, and then the time of the day.
use Rattle.std.proofs.Common.{◌≡◌, ◌++◌, ◌/◌, ◌%◌, List, ℕ, ap, append_assoc, subst, ◌∙◌}
use Rattle.std.specs.Prelude.{OnOk}
use Rattle.std.specs.Int.{w64}
use Rattle.std.proofs.lemmas.Int.{to_z-of_z}
use Rattle.history_text.specs.Dates.{clock_text, date_text, days_text, since_march}
use Rattle.history_text.proofs.dates.put_date.Goals as goal

pub returns : goal.returns
returns c =
    let second = c.since_march-second.result in
    let same : second ≡ since_march c.args.second = c.since_march-second.ensures.same ∙ ap since_march (to_z-of_z w64 c.args.second c.ranges.second) in
    let whole : c.put_days.new.out ++ clock_text (second % 86400) ≡ c.args.out.now ++ date_text c.args.second =
    ap (λ (first : List ℕ). first ++ clock_text (second % 86400)) c.in_ok-put_days.ensures
    ∙ append_assoc c.args.out.now (days_text (second / 86400)) (clock_text (second % 86400))
    ∙ ap (λ (n : ℕ). c.args.out.now ++ (days_text (n / 86400) ++ clock_text (n % 86400))) same in
    subst (λ (text : List ℕ). OnOk c.put_clock.result (c.put_clock.new.out ≡ text)) whole c.put_clock.ensures
