-- The marks that contracts see, found among those that are kept.
use Rattle.std.proofs.Common.{◌≡◌, ℕ, true, false, Option, Some, None, option_map, IfSome, refl, sym, ap, ◌∙◌, subst, nat_cmp, Bor}
use Rattle.std.specs.Map.{remove_entry}
use Rattle.std.specs.BTreeMap.{is_at}
use Rattle.std.specs.Option.{option_copied}
use Rattle.std.proofs.lemmas.Bool.{false≢true, eqb-true, eqb-false}
use Rattle.file_world.specs.Attributes.{Marks, mark_at}
use Rattle.file_world.proofs.RowLemmas.{lookup-removed_same, lookup-removed_other}
use Rattle.attr_state.specs.declared.mark.KeptMark.{KeptMark as Kept}
use Rattle.attr_state.specs.declared.ready.MetaReady.{MetaReady}
use Rattle.attr_state.specs.declared.ready.MetaReady.TheVariants.{Nothing, Attributes as Room, Made}
use Rattle.attr_state.specs.Index.{MarkEntries, shown, marks_of, marks_in, kept_at, is_held, AreSorted, AreOrdered, IsMarkIndex}
use Rattle.attr_state.proofs.MarkLemmas.{rising_marks, marks-removed, mark_at-shown}

-- a mark that is only ready to be made is not seen
pub held_missing : (ready : Option MetaReady) (entries : MarkEntries) (number : ℕ) → IsMarkIndex entries ready → is_held ready number ≡ true → mark_at (marks_in ready entries) number ≡ None
held_missing None entries number kept e = absurd (false≢true e)
held_missing (Some Nothing) entries number kept e = absurd (false≢true e)
held_missing (Some (Room node len)) entries number kept e = absurd (false≢true e)
held_missing (Some (Made node owner parent)) entries number kept e =
    subst (λ (n : ℕ). mark_at (marks_of (remove_entry (is_at (nat_cmp node)) entries)) n ≡ None) (eqb-true node number e)
    (ap (λ (marks : Marks). mark_at marks node) (marks-removed entries node) ∙ lookup-removed_same node (marks_of entries) (rising_marks entries kept.ordered.rising))

-- every other one is
pub current_same : (ready : Option MetaReady) (entries : MarkEntries) (number : ℕ) → is_held ready number ≡ false → mark_at (marks_in ready entries) number ≡ mark_at (marks_of entries) number
current_same None entries number e = refl
current_same (Some Nothing) entries number e = refl
current_same (Some (Room node len)) entries number e = refl
current_same (Some (Made node owner parent)) entries number e =
    ap (λ (marks : Marks). mark_at marks number) (marks-removed entries node) ∙ lookup-removed_other node number (marks_of entries) (λ h. eqb-false node number e (sym h))

shown_copied : (result : Option (Bor Kept)) → option_map (λ (mark : Bor Kept). shown mark.now) result ≡ option_map shown (option_copied result)
shown_copied None = refl
shown_copied (Some mark) = refl

pub current_found : (ready : Option MetaReady) (entries : MarkEntries) (number : ℕ) (result : Option (Bor Kept)) → is_held ready number ≡ false → option_copied result ≡ kept_at entries number → option_map (λ (mark : Bor Kept). shown mark.now) result ≡ mark_at (marks_in ready entries) number
current_found ready entries number result e found =
    shown_copied result ∙ (ap (option_map shown) found ∙ sym (current_same ready entries number e ∙ mark_at-shown entries number))

pub found_sorted : (entries : MarkEntries) (number : ℕ) (result : Option (Bor Kept)) → AreOrdered entries → option_copied result ≡ kept_at entries number → IfSome result (λ (mark : Bor Kept). AreSorted mark.now.attributes.items)
found_sorted entries number None ordered found = tt
found_sorted entries number (Some mark) ordered found = ordered.sorted number mark.now (sym found)
