-- The payload of a journal's record: the one spelling of an event, up to its pass, which is not
-- written. The format is this project's own.
use Rattle.std.specs.Prelude.{◌≡◌, ℕ, List, ◌∷◌, ◌≤◌, length}
use Rattle.bl_syntax.specs.TimeOrder.{IsMoment}
use Rattle.journal_records.specs.declared.event.Event.{Event}
use Rattle.journal_records.specs.declared.event.Event.TheVariants.{Registered, Withdrawn, Issued, Acted}
use Rattle.journal_records.specs.Passes.{erase}
use Rattle.record_parts.specs.Fields.{FitsFourBytes}
use Rattle.record_parts.specs.OperationSpelling.{HasFittingWords}
use Rattle.record_parts.specs.RecordSpelling.{registered_spelling, IsSpellableRegistered, withdrawn_spelling, IsSpellableWithdrawn, issued_spelling, IsSpellableIssued, acted_spelling, IsSpellableActed}

-- the tag of its kind, and what happened
unfoldable pub event_spelling : Event → List ℕ
event_spelling (Registered pass statement signature) = 1 ∷ registered_spelling statement signature
event_spelling (Issued pass cited proof grant) = 2 ∷ issued_spelling cited proof grant
event_spelling (Acted pass caller op procaps moment) = 3 ∷ acted_spelling caller op procaps moment
event_spelling (Withdrawn pass number signature) = 4 ∷ withdrawn_spelling number signature

-- the event has a spelling
abbrev pub IsSpellableEvent : Event → Type 0
IsSpellableEvent (Registered pass statement signature) = IsSpellableRegistered statement signature
IsSpellableEvent (Issued pass cited proof grant) = IsSpellableIssued cited proof grant
IsSpellableEvent (Acted pass caller op procaps moment) = IsSpellableActed caller op procaps moment
IsSpellableEvent (Withdrawn pass number signature) = IsSpellableWithdrawn number signature

-- what is counted fits its field, and the moment lies in the range of moments; the rest of what a
-- spelling asks for always holds
abbrev pub HasFittingFields : Event → Type 0
HasFittingFields (Registered pass statement signature) = FitsFourBytes signature
HasFittingFields (Issued pass cited proof grant) = length cited ≤ 255
HasFittingFields (Acted pass caller op procaps moment) = HasFittingWords op ×
    ((length procaps ≤ 255) × IsMoment moment)
HasFittingFields (Withdrawn pass number signature) = FitsFourBytes signature

-- an event that is read: it has a spelling, and pass 0
pub record IsReadEvent (e : Event) : Type 0 where
  pub spelled : IsSpellableEvent e
  pub erased : erase e ≡ e
