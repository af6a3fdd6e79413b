-- Messages that are collected before they are written (this project's own).
use Rattle.bl_syntax.specs.declared.limits.TheConstants.{LONGEST_MESSAGE}
use Rattle.std.specs.Prelude.{◌≡◌, ◌⊎◌, ◌≤◌, ℕ, List, [], length, Bool, Option}
use Rattle.std.specs.List.{AllByRecursion}
use Rattle.pcfs_ports.specs.Observable.{with_back, HoldsSome}
use Rattle.journal_records.specs.declared.event.Event.{Event}
use Rattle.event_messages.specs.Messages.{Message, messages_spelling}
use Rattle.journal_records.specs.EventSpelling.{event_spelling, HasFittingFields, IsSpellableEvent}
use Rattle.pcfs_server.specs.Ends.{FailedLast}
use Rattle.pcfs_session.specs.declared.outbox.SendFault.{SendFault}
use Rattle.pcfs_session.specs.declared.outbox.SendFault.TheVariants.{Write, NoMemory}
use Rattle.export_run.specs.Exported.{HoldsFirst}

-- the event fits the fields of its record, and its record a message
pub record FitsMessage (event : Event) : Type 0 where
  pub fields : HasFittingFields event
  pub few : IsSpellableEvent event → length (event_spelling event) ≤ LONGEST_MESSAGE

abbrev pub FitMessages : List Event → Type 0
FitMessages events = AllByRecursion FitsMessage events

-- of these bytes either all are collected, or all were written
abbrev pub AreCollectedOrOut : Option (List ℕ) → List ℕ → Option (List ℕ) → List ℕ → Type 0
AreCollectedOrOut held bytes held_after collected =
    ((held_after ≡ held) × (collected ≡ bytes)) ⊎
    ((held_after ≡ with_back held bytes) × (collected ≡ []))

-- why these bytes were not sent: the output failed, at its last call, and holds some first part of
-- them; or memory ran out, and nothing was written. `broken` says whether the last call failed
abbrev pub IsUnsent : SendFault → Option (List ℕ) → ℕ → List ℕ → Option (List ℕ) → ℕ → Bool → Type 0
IsUnsent Write held faults bytes held_after faults_after broken = FailedLast faults faults_after broken × HoldsSome held held_after bytes
IsUnsent NoMemory held faults bytes held_after faults_after broken = (held_after ≡ held) ×
    (faults_after ≡ faults)

-- why not all of these messages were written: the output failed, at its last call, and holds some
-- first part of them; or memory ran out, and it holds the first ones
abbrev pub AreCutShort : SendFault → Option (List ℕ) → ℕ → List Message → Option (List ℕ) → ℕ →
    Bool → Type 0
AreCutShort Write held faults messages held_after faults_after broken =
    FailedLast faults faults_after broken × HoldsSome held held_after (messages_spelling messages)
AreCutShort NoMemory held faults messages held_after faults_after broken = HoldsFirst held messages held_after × (faults_after ≡ faults)
