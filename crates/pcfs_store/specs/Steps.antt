-- What a step of a store answers and keeps, and what a crash within it may leave. This project's
-- own.
use Rattle.std.specs.Prelude.{◌≡◌, ◌⊎◌, ℕ, ℤ, ◌+◌, List, [], ◌∷◌, ◌++◌, length, Some, None}
use Rattle.pcfs_ports.specs.Faults.{HasRisen}
use Rattle.journal_records.specs.declared.event.Event.{Event}
use Rattle.access_history.specs.declared.request.StepRequest.{StepRequest}
use Rattle.access_history.specs.declared.reply.StepReply.{StepReply}
use Rattle.journal_records.specs.EventSpelling.{event_spelling}
use Rattle.pcfs_store.specs.declared.reply.StoreReply.{StoreReply}
use Rattle.pcfs_store.specs.declared.reply.StoreReply.TheVariants.{Step, Full, Stopped, NoMemory}
use Rattle.pcfs_store.specs.StoredHistory.{IsFull}
use Rattle.pcfs_store.specs.Newest.{SurvivesWholeClosed}
use Rattle.pcfs_store.specs.StoreView.{StoreView, state_of_store, AnswersIn}

-- the event does not fit
abbrev pub IsFullFor : {D : Type 0} → StoreView D → Event → Type 0
IsFullFor s event = IsFull s.used (state_of_store s).count event

-- the store with an event more, after its record was written
abbrev pub with_event : {D : Type 0} → StoreView D → Event → D → StoreView D
with_event s event active = record s { active = active; used = s.used + (5 + length (event_spelling event)); events = s.events ++ event ∷ [] }

-- What a step answers, and the store after it. Nothing else comes.
pub data Steps {D : Type 0} (faults : D → ℕ) (old : StoreView D) (pass : ℕ) (clock : ℤ) (request : StepRequest) : StoreReply → StoreView D → Type 0 where
  -- the answer keeps nothing
  answered : (reply : StepReply) → old.stop ≡ None → AnswersIn old pass clock request reply None →
      Steps faults old pass clock request (Step reply) old
  -- the answer's event was kept on the disk, no call of which failed, and then here
  kept : (reply : StepReply) (event : Event) (active : D) → old.stop ≡ None →
      AnswersIn old pass clock request reply (Some event) → (IsFullFor old event → ⊥) →
      faults active ≡ faults old.active →
      Steps faults old pass clock request (Step reply) (with_event old event active)
  -- the answer's event does not fit
  full : (reply : StepReply) (event : Event) → old.stop ≡ None →
      AnswersIn old pass clock request reply (Some event) → IsFullFor old event →
      Steps faults old pass clock request Full old
  -- the disk failed under the answer's event
  failed : (reply : StepReply) (event : Event) (active : D) → old.stop ≡ None →
      AnswersIn old pass clock request reply (Some event) → (IsFullFor old event → ⊥) →
      HasRisen (faults old.active) (faults active) →
      Steps faults old pass clock request Stopped (record old { active = active; stop = Some pass; met = Some event })
  -- a disk failed before
  stopped : (earlier : ℕ) → old.stop ≡ Some earlier →
      Steps faults old pass clock request Stopped old
  -- memory ran out
  without_memory : old.stop ≡ None → Steps faults old pass clock request NoMemory old

-- what a crash within a step may leave: the history as it was, or with the event that the answer
-- keeps; and the closed gate after it
abbrev pub LeavesStep : {D : Type 0} → StoreView D → ℕ → ℤ → StepRequest → List ℕ → List ℕ → Type 0
LeavesStep old pass clock request first second =
    SurvivesWholeClosed old.base old.events first second
    ⊎ ((reply : StepReply) × (event : Event) × AnswersIn old pass clock request reply (Some event)
    × SurvivesWholeClosed old.base (old.events ++ event ∷ []) first second)
