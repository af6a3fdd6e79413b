-- What a store answers to an event that came from outside, and what a crash meanwhile may leave. This
-- project's own.
use Rattle.std.specs.Prelude.{◌≡◌, ◌⊎◌, ℕ, List, [], ◌∷◌, ◌++◌, Option, Some, None}
use Rattle.pcfs_ports.specs.Faults.{HasRisen}
use Rattle.journal_records.specs.declared.event.Event.{Event}
use Rattle.journal_records.specs.Passes.{event_pass}
use Rattle.op_gate.specs.declared.damage.Damage.{Damage}
use Rattle.op_gate.specs.declared.damage.AdmitFault.{AdmitFault}
use Rattle.op_gate.specs.declared.damage.AdmitFault.TheVariants as admissions
use Rattle.op_gate.specs.Damage.{IsDamagedBy, MayComeNext}
use Rattle.pcfs_store.specs.declared.reply.Admitted.{Admitted}
use Rattle.pcfs_store.specs.declared.reply.Admitted.TheVariants.{Kept, Damaged, Full, Stopped, NoMemory}
use Rattle.pcfs_store.specs.Newest.{SurvivesWholeClosed}
use Rattle.pcfs_store.specs.StoreView.{StoreView, authority_of_store, state_of_store}
use Rattle.pcfs_store.specs.Steps.{IsFullFor, with_event}
use Rattle.pcfs_store.specs.Promises.{Promises}

-- the event may come next in a store, and there is a number for it
abbrev pub MayEnter : {D : Type 0} → StoreView D → Event → Type 0
MayEnter s event = MayComeNext (authority_of_store s) (state_of_store s) event

-- What is answered to the event, and the store after it. Nothing else comes.
pub data Admits {D : Type 0} (faults : D → ℕ) (old : StoreView D) (event : Event) : Admitted → StoreView D → Type 0 where
  -- it was kept on the disk, no call of which failed, and then here
  kept : (active : D) → old.stop ≡ None → MayEnter old event → (IsFullFor old event → ⊥) →
      faults active ≡ faults old.active →
      Admits faults old event Kept (with_event old event active)
  -- it may not come next: its first damage
  damaged : (damage : Damage) → old.stop ≡ None →
      IsDamagedBy (authority_of_store old) (state_of_store old) event damage →
      Admits faults old event (Damaged damage) old
  -- it does not fit
  full : old.stop ≡ None → MayEnter old event → IsFullFor old event →
      Admits faults old event Full old
  -- the disk failed under it
  failed : (active : D) → old.stop ≡ None → MayEnter old event → (IsFullFor old event → ⊥) →
      HasRisen (faults old.active) (faults active) →
      Admits faults old event Stopped (record old { active = active; stop = Some (event_pass event); met = Some event })
  -- a disk failed before
  stopped : (earlier : ℕ) → old.stop ≡ Some earlier → Admits faults old event Stopped old
  -- memory ran out
  without_memory : old.stop ≡ None → Admits faults old event NoMemory old

-- what is reported of an event that was not prepared
abbrev pub unprepared : AdmitFault → Admitted
unprepared (admissions.Damaged damage) = Damaged damage
unprepared admissions.NoMemory = NoMemory

-- what a crash meanwhile may leave: the history as it was, or with the event if it may come next;
-- and the closed gate after it
abbrev pub LeavesAdmitting : {D : Type 0} → StoreView D → Event → List ℕ → List ℕ → Type 0
LeavesAdmitting old event first second =
    SurvivesWholeClosed old.base old.events first second
    ⊎ (MayEnter old event × SurvivesWholeClosed old.base (old.events ++ event ∷ []) first second)

module _ {D : Type 0} (clock : D → ℕ) (left_since : D → ℕ → List ℕ → Type 0) (image : D → Option (List ℕ)) (faults : D → ℕ) where
  -- all that the admission of an event promises, from the old store to the new one
  abbrev pub Admitting : StoreView D → Event → Admitted → StoreView D → Type 0
  Admitting old event result new =
      Promises clock left_since image faults (Admits faults old event) (LeavesAdmitting old event) Stopped old result new
