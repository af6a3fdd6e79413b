-- What a follower answers to an event that was delivered, and its store after it (this project's
-- own).
use Rattle.std.specs.Prelude.{◌≡◌, ◌⊎◌, ◌+◌, ◌<◌, ◌≤◌, ℕ, List, [], ◌∷◌, ◌++◌, Option, Some, None}
use Rattle.pcfs_ports.specs.Faults.{HasRisen}
use Rattle.journal_records.specs.declared.event.Event.{Event}
use Rattle.journal_records.specs.EventSpelling.{event_spelling, IsReadEvent}
use Rattle.op_gate.specs.declared.damage.Damage.{Damage}
use Rattle.pcfs_store.specs.declared.reply.Admitted.{Admitted}
use Rattle.pcfs_store.specs.declared.reply.Admitted.TheVariants as admitted
use Rattle.pcfs_store.specs.Newest.{SurvivesWholeClosed}
use Rattle.pcfs_store.specs.StoreView.{StoreView, authority_of_store, state_of_store}
use Rattle.pcfs_store.specs.Steps.{IsFullFor, with_event}
use Rattle.pcfs_store.specs.Promises.{Promises}
use Rattle.pcfs_store.specs.Admitting.{MayEnter}
use Rattle.recover.specs.AreaDamage.{IsDamagedPayload}
use Rattle.follower.specs.declared.taking.Taken.{Taken}
use Rattle.follower.specs.declared.taking.Taken.TheVariants.{Kept, Known, Missing, Damaged, Full, Stopped, NoMemory}

-- the number of the last event of a store, and of the next one
abbrev pub last_number : {D : Type 0} → StoreView D → ℕ
last_number s = (state_of_store s).count

abbrev pub next_number : {D : Type 0} → StoreView D → ℕ
next_number s = last_number s + 1

-- the payload is that of the event, which has no pass
pub record IsPayloadOf (event : Event) (payload : List ℕ) : Type 0 where
  pub read : IsReadEvent event
  pub spelled : payload ≡ event_spelling event

-- the payload that was delivered under this number is that of the event, which may come next
pub record IsNextEvent {D : Type 0} (s : StoreView D) (number : ℕ) (payload : List ℕ) (event : Event) : Type 0 where
  pub numbered : number ≡ next_number s
  pub payload_is : IsPayloadOf event payload
  pub enters : MayEnter s event

-- What is answered to a payload that is delivered under a number, and the store after it. Nothing
-- else comes.
pub data Takes {D : Type 0} (faults : D → ℕ) (old : StoreView D) (number : ℕ) (payload : List ℕ) : Taken → StoreView D → Type 0 where
  -- a disk failed before
  stopped : (earlier : ℕ) → old.stop ≡ Some earlier → Takes faults old number payload Stopped old
  -- the store has an event of that number
  known : old.stop ≡ None → number ≤ last_number old → Takes faults old number payload Known old
  -- an event before that number is missing: first the one of the next number
  missing : old.stop ≡ None → next_number old < number →
      Takes faults old number payload (Missing (next_number old)) old
  -- it has the next number, and no event may come next of which the payload is that: its first
  -- damage
  damaged : (damage : Damage) → old.stop ≡ None → number ≡ next_number old →
      IsDamagedPayload (authority_of_store old) (state_of_store old) payload damage →
      Takes faults old number payload (Damaged damage) old
  -- its event does not fit
  full : (event : Event) → old.stop ≡ None → IsNextEvent old number payload event →
      IsFullFor old event → Takes faults old number payload Full old
  -- the disk failed under its event
  failed : (event : Event) (active : D) → old.stop ≡ None →
      IsNextEvent old number payload event → (IsFullFor old event → ⊥) →
      HasRisen (faults old.active) (faults active) →
      Takes faults old number payload Stopped (record old { active = active; stop = Some 0; met = Some event })
  -- its event was kept on the disk, no call of which failed, and then here
  kept : (event : Event) (active : D) → old.stop ≡ None →
      IsNextEvent old number payload event → (IsFullFor old event → ⊥) →
      faults active ≡ faults old.active →
      Takes faults old number payload Kept (with_event old event active)
  -- memory ran out
  without_memory : old.stop ≡ None → number ≡ next_number old →
      Takes faults old number payload NoMemory old

-- what a crash meanwhile may leave: the history as it was, or with the event of the payload if it
-- has the next number and may come next; and the closed gate after it
abbrev pub LeavesTaking : {D : Type 0} → StoreView D → ℕ → List ℕ → List ℕ → List ℕ → Type 0
LeavesTaking old number payload first second =
    SurvivesWholeClosed old.base old.events first second
    ⊎ ((event : Event) × IsNextEvent old number payload event
    × SurvivesWholeClosed old.base (old.events ++ event ∷ []) first second)

-- what is answered, by what a store answers to the event
abbrev pub taken_of : Admitted → Taken
taken_of admitted.Kept = Kept
taken_of (admitted.Damaged damage) = Damaged damage
taken_of admitted.Full = Full
taken_of admitted.Stopped = Stopped
taken_of admitted.NoMemory = NoMemory

module _ {D : Type 0} (clock : D → ℕ) (left_since : D → ℕ → List ℕ → Type 0) (image : D → Option (List ℕ)) (faults : D → ℕ) where
  -- all that the taking of a payload promises, from the old store to the new one
  abbrev pub Taking : StoreView D → ℕ → List ℕ → Taken → StoreView D → Type 0
  Taking old number payload result new =
      Promises clock left_since image faults (Takes faults old number payload)
      (LeavesTaking old number payload) Stopped old result new
