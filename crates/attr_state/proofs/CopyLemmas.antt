-- A copy of the marks shows the same.
use Rattle.std.proofs.Common.{◌≡◌, ℕ, Option, Some, None, [], ◌∷◌, refl, sym, ap, ap₂, ◌∙◌, subst, nat_eq, nat_cmp}
use Rattle.std.specs.List.{AllZip}
use Rattle.std.specs.List.Sorted.{IsStrictlySortedBy}
use Rattle.std.specs.Map.{remove_entry, keys_of}
use Rattle.file_world.specs.Attributes.{Mark, Marks, mark_at}
use Rattle.file_world.specs.AttributeEffect.{attributes_of}
use Rattle.attr_state.specs.declared.ready.MetaReady.{MetaReady}
use Rattle.attr_state.specs.declared.ready.MetaReady.TheVariants.{Nothing, Attributes as Room, Made}
use Rattle.attr_state.specs.Index.{MarkEntries, shown, marks_of, marks_in, AreSorted, AreOrdered}
use Rattle.attr_state.proofs.MarkLemmas.{keys-shown, rising_marks, marks-removed, mark_at-kept}
use Rattle.attr_state.proofs.ChangeLemmas.{sorted_attributes}

abbrev pub AreCopies : MarkEntries → MarkEntries → Type 0
AreCopies old new = AllZip (λ p q. (q.0 ≡ p.0) × (shown q.1 ≡ shown p.1)) old new

pub marks_copied : (old new : MarkEntries) → AreCopies old new → marks_of new ≡ marks_of old
marks_copied [] [] copies = refl
marks_copied [] (new ∷ news) copies = absurd copies
marks_copied (old ∷ olds) [] copies = absurd copies
marks_copied (old ∷ olds) (new ∷ news) copies =
    ap₂ (λ (row : ℕ × Mark) (marks : Marks). row ∷ marks) (ap₂ (λ (number : ℕ) (mark : Mark). (number, mark)) copies.0.0 copies.0.1) (marks_copied olds news copies.1)

pub AreOrdered-same : (old new : MarkEntries) → AreOrdered old → marks_of new ≡ marks_of old → AreOrdered new
AreOrdered-same old new ordered same =
    record {
      rising = subst (IsStrictlySortedBy nat_cmp) (ap keys_of (sym same) ∙ keys-shown new) (rising_marks old ordered.rising);
      sorted = λ number kept e.
          let found : mark_at (marks_of old) number ≡ Some (shown kept) = ap (λ (marks : Marks). mark_at marks number) (sym same) ∙ mark_at-kept new number kept e in
          subst (λ (mark : Option Mark). AreSorted (attributes_of mark)) found (sorted_attributes old number ordered);
    }

pub marks_in-same : (ready : Option MetaReady) (old new : MarkEntries) → marks_of new ≡ marks_of old → marks_in ready new ≡ marks_in ready old
marks_in-same None old new same = same
marks_in-same (Some Nothing) old new same = same
marks_in-same (Some (Room number len)) old new same = same
marks_in-same (Some (Made number owner parent)) old new same =
    marks-removed new number ∙ (ap (remove_entry (nat_eq number)) same ∙ sym (marks-removed old number))
