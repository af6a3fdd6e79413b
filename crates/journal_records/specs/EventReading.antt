-- Reading an event from the payload of a journal's record, from the left: the event and the bytes
-- after it, or the first fault. It is read with pass 0.
use Rattle.std.specs.Prelude.{◌≡◌, ℕ, List, [], ◌∷◌, ◌==◌, length, if◌then◌else◌, Result, Err, IfOk, IfErr}
use Rattle.bl_syntax.specs.declared.codec_fault.CodecFault.{CodecFault}
use Rattle.bl_syntax.specs.declared.codec_fault.CodecFault.TheVariants as faults
use Rattle.bl_syntax.specs.Reading.{◌>>=◌, Reading, map_reading, place}
use Rattle.procap.specs.Procap.{at_end}
use Rattle.journal_records.specs.declared.event.Event.{Event}
use Rattle.journal_records.specs.declared.event.Event.TheVariants.{Registered, Withdrawn, Issued, Acted}
use Rattle.record_parts.specs.RecordReading.{registered_at, withdrawn_at, issued_at, acted_at}
use Rattle.journal_records.specs.EventSpelling.{event_spelling, IsSpellableEvent, IsReadEvent}

-- an event: the tag of its kind, and what happened
unfoldable pub event_at : ℕ → List ℕ → Reading Event
event_at input [] = Err faults.Short
event_at input (tag ∷ rest) =
    if tag == 1 then map_reading (λ r. Registered 0 r.0 r.1) (registered_at input rest) else
    if tag == 2 then map_reading (λ i. Issued 0 i.0 i.1.0 i.1.1) (issued_at input rest) else
    if tag == 3 then map_reading (λ a. Acted 0 a.0 a.1.0 a.1.1.0 a.1.1.1) (acted_at input rest) else
    if tag == 4 then map_reading (λ w. Withdrawn 0 w.0 w.1) (withdrawn_at rest) else
    Err (faults.BadTag (place input (tag ∷ rest)))

-- an event that is the whole input, or the first fault: nothing may be left over
unfoldable pub whole_event : List ℕ → Result Event CodecFault
whole_event bytes = event_at (length bytes) bytes >>= at_end (length bytes)

-- what a call read of the whole bytes: the event of pass 0 of which they are the spelling, or a
-- fault, which comes only if they spell no event, or because memory runs out
pub record ReadsWholeEvent (bytes : List ℕ) (result : Result Event CodecFault) : Type 0 where
  pub found : IfOk result (λ e. IsReadEvent e × (bytes ≡ event_spelling e))
  pub refused : IfErr result (λ fault. (fault ≡ faults.NoMemory → ⊥) → (e : Event) → IsSpellableEvent e → bytes ≡ event_spelling e → ⊥)
