-- What becomes of an event that is to be kept (this project's own).
use Rattle.std.specs.Prelude.{◌≡◌, ℕ, ◌+◌, ◌<◌, ◌≤◌, List, [], ◌∷◌, ◌++◌, length, Option, Some, None, Result, Ok, Err, is_some}
use Rattle.pcfs_ports.specs.Faults.{HasRisen}
use Rattle.pcfs_ports.specs.Disk.{IsPinned, LeavesOnly}
use Rattle.journal_core.specs.declared.area.AreaFault.{AreaFault}
use Rattle.journal_core.specs.declared.area.AreaFault.TheVariants.{Disk as DiskFailed, AreaFull, NoMemory}
use Rattle.journal_core.specs.Area.{area_limit, record_bytes, Begins, StandsForBody}
use Rattle.journal_core.specs.AreaView.{AreaView}
use Rattle.journal_core.specs.Rest.{Rests, IsWithOrWithout}
use Rattle.journal_records.specs.declared.event.Event.{Event}
use Rattle.access_history.specs.Replay.{replay}
use Rattle.journal_records.specs.EventSpelling.{event_spelling, IsSpellableEvent}
use Rattle.op_gate.specs.Decision.{GateView}
use Rattle.pcfs_store.specs.StoredHistory.{IsFull}

-- how many bytes the gate's state says there are events
abbrev pub count_of : GateView → ℕ
count_of gate = (replay gate.base gate.events).count

-- a gate after its pending event was kept
abbrev pub with_kept : GateView → Event → GateView
with_kept gate event = record gate { events = gate.events ++ event ∷ []; pending = None }

-- a gate after its pending event was dropped
abbrev pub without_pending : GateView → GateView
without_pending gate = record gate { pending = None }

module _ {D : Type 0} (clock : D → ℕ) (left_since : D → ℕ → List ℕ → Type 0) (image : D → Option (List ℕ)) (faults : D → ℕ) where
  -- The record of an event was being written to an area, for which it has room: whatever comes of
  -- it, this holds.
  pub record Writes (old new : AreaView D) (event : Event) : Type 0 where
    pub spelled : IsSpellableEvent event
    pub room : old.end + length (event_spelling event) + 6 ≤ area_limit
    pub any_moment : (body : List ℕ) → length body ≡ old.end →
        Rests clock left_since image old.disk body →
        LeavesOnly clock left_since old.disk new.disk (IsWithOrWithout body (event_spelling event))
    -- also of an area that lacked its closed gate
    pub front : (body bytes : List ℕ) → length body ≡ old.end → image old.disk ≡ Some bytes →
        Begins body bytes → IsPinned clock left_since image old.disk →
        LeavesOnly clock left_since old.disk new.disk (Begins body)
    pub told : is_some (image new.disk) ≡ is_some (image old.disk)
    pub never_falls : faults old.disk ≤ faults new.disk

  -- The record was written, and no call of the disk failed.
  pub record HasWritten (old new : AreaView D) (event : Event) : Type 0 where
    pub writes : Writes old new event
    pub no_fault : faults new.disk ≡ faults old.disk
    pub end : new.end ≡ old.end + length (event_spelling event) + 5
    pub rests : (body bytes : List ℕ) → length body ≡ old.end → image old.disk ≡ Some bytes →
        StandsForBody body bytes →
        Rests clock left_since image new.disk (body ++ record_bytes (event_spelling event))

  -- The disk failed.
  pub record HasFailed (old new : AreaView D) (event : Event) : Type 0 where
    pub writes : Writes old new event
    pub end : new.end ≡ old.end
    pub risen : HasRisen (faults old.disk) (faults new.disk)

  -- what was added of an event to an area
  abbrev pub AppendsEvent : AreaView D → Event → Result (Unit {0}) AreaFault → AreaView D → Type 0
  AppendsEvent old event (Ok done) new = HasWritten old new event
  AppendsEvent old event (Err DiskFailed) new = HasFailed old new event
  AppendsEvent old event (Err AreaFull) new = (area_limit < old.end + length (event_spelling event) + 6) × (new ≡ old)
  AppendsEvent old event (Err NoMemory) new = new ≡ old

  -- what became of the pending event of a gate: if the disk failed, it is pending still
  abbrev pub KeepsPending : AreaView D → GateView → Event → Result (Unit {0}) AreaFault →
      AreaView D → GateView → Type 0
  KeepsPending old gate event (Ok done) new after = HasWritten old new event ×
      (IsFull old.end (count_of gate) event → ⊥) × (after ≡ with_kept gate event)
  KeepsPending old gate event (Err DiskFailed) new after = HasFailed old new event ×
      (IsFull old.end (count_of gate) event → ⊥) × (after ≡ gate)
  KeepsPending old gate event (Err AreaFull) new after = IsFull old.end (count_of gate) event ×
      (new ≡ old) × (after ≡ without_pending gate)
  KeepsPending old gate event (Err NoMemory) new after = (new ≡ old) ×
      (after ≡ without_pending gate)
