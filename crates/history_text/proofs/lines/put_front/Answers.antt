-- One part after the other.
use Rattle.std.proofs.Common.{◌≡◌, ◌++◌, ℕ, List, ap, subst, ◌∙◌}
use Rattle.std.specs.Prelude.{OnOk, codes, ℤ}
use Rattle.std.specs.Int.{w64}
use Rattle.std.proofs.lemmas.Int.{to_z-of_z}
use Rattle.access_history.proofs.HistoryLemmas.{SFits-moment}
use mir.Val.{of_z, to_z}
use Rattle.std.specs.Fmt.{decimal}
use Rattle.history_text.specs.Dates.{date_text}
use Rattle.history_text.specs.Lines.{front_text, known_text, moment_word}
use Rattle.history_text.proofs.TextLemmas.{joined5}
use Rattle.history_text.proofs.lines.put_front.Goals as goal

pub returns : goal.returns
returns c =
    let out = c.args.out.now in
    let event = c.args.event.now in
    let row = c.args.row.now in
    let second_is : to_z w64 (of_z w64 row.second) ≡ row.second = to_z-of_z w64 row.second (SFits-moment row.second c.requires) in
    let date_is : c.put_date.new.out ≡ c.put_moment_word.new.out ++ date_text row.second = c.in_ok-put_date.ensures ∙ ap (λ (z : ℤ). c.put_moment_word.new.out ++ date_text z) second_is in
    let whole : c.put_text.new.out ++ known_text row.who ≡ out ++ front_text event row =
    joined5 out c.put_decimal.new.out c.put_moment_word.new.out c.put_date.new.out c.put_text.new.out (decimal row.number) (moment_word event) (date_text row.second) (codes " ") (known_text row.who)
    c.in_ok-put_decimal.ensures.ok c.in_ok-put_moment_word.ensures date_is c.in_ok-put_text.ensures.ok in
    subst (λ (text : List ℕ). OnOk c.put_who.result (c.put_who.new.out ≡ text)) whole c.put_who.ensures
