-- One member after the other.
use Rattle.std.proofs.Common.{◌≡◌, ◌++◌, ℕ, List, ap, subst, ◌∙◌}
use Rattle.std.specs.Prelude.{OnOk, codes, ℤ}
use Rattle.std.specs.Int.{w64}
use Rattle.std.proofs.lemmas.Int.{to_z-of_z}
use Rattle.access_history.proofs.HistoryLemmas.{SFits-moment}
use mir.Val.{of_z, to_z}
use Rattle.std.specs.Fmt.{decimal, signed_decimal}
use Rattle.history_text.specs.Strings.{string_text}
use Rattle.history_text.specs.Dates.{date_text}
use Rattle.history_text.specs.Objects.{front_members, kind_text, text_member}
use Rattle.history_text.proofs.TextLemmas.{joined8}
use Rattle.history_text.proofs.objects.put_front.Goals as goal

pub returns : goal.returns
returns c =
    let out = c.args.out.now in
    let row = c.args.row.now in
    let second_is : to_z w64 (of_z w64 row.second) ≡ row.second = to_z-of_z w64 row.second (SFits-moment row.second c.requires) in
    let number_is : c.put_second.new.out ≡ c.put_text-2.new.out ++ signed_decimal row.second = c.in_ok-put_second.ensures ∙ ap (λ (z : ℤ). c.put_text-2.new.out ++ signed_decimal z) second_is in
    let date_is : c.put_date_string.new.out ≡ c.put_text-3.new.out ++ string_text (date_text row.second) = c.in_ok-put_date_string.ensures ∙ ap (λ (z : ℤ). c.put_text-3.new.out ++ string_text (date_text z)) second_is in
    let whole : c.put_date_string.new.out ++ text_member (codes ",\"who\":") row.who ≡ out ++ front_members c.args.event.now row =
    joined8 out c.put_counted.new.out c.put_text.new.out c.put_kind.new.out c.put_text-2.new.out c.put_second.new.out c.put_text-3.new.out c.put_date_string.new.out (codes "{\"event\":" ++ decimal row.number) (codes ",\"kind\":") (string_text (kind_text c.args.event.now)) (codes ",\"second\":") (signed_decimal row.second) (codes ",\"date\":") (string_text (date_text row.second)) (text_member (codes ",\"who\":") row.who)
    c.in_ok-put_counted.ensures.ok c.in_ok-put_text.ensures.ok c.in_ok-put_kind.ensures c.in_ok-put_text-2.ensures.ok number_is c.in_ok-put_text-3.ensures.ok date_is in
    subst (λ (text : List ℕ). OnOk c.put_who.result (c.put_who.new.out ≡ text)) whole c.put_who.ensures
