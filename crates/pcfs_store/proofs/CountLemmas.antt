-- While a store is not stopped no call of its disks has failed.
use Rattle.std.proofs.Common.{◌≡◌, ◌∙◌, ℕ, ℤ, Bool, true, false, Some, None, refl, sym, ap}
use Rattle.std.specs.Prelude.{Option, not}
use Rattle.access_history.specs.declared.request.StepRequest.{StepRequest}
use Rattle.journal_records.specs.declared.event.Event.{Event}
use Rattle.pcfs_store.specs.declared.reply.CheckpointReply.{CheckpointReply}
use Rattle.pcfs_store.specs.declared.reply.StoreReply.{StoreReply}
use Rattle.pcfs_store.specs.Checkpoints.{MakesCheckpoint}
use Rattle.pcfs_store.specs.Checkpoints as makes
use Rattle.pcfs_store.specs.Newest.{one_of}
use Rattle.pcfs_store.specs.Steps.{Steps, with_event}
use Rattle.pcfs_store.specs.Steps as steps
use Rattle.pcfs_store.specs.StoreView.{StoreView, NoneFailed}

none_some : {P : Type 0} (stop : Option ℕ) (pass : ℕ) → stop ≡ None → stop ≡ Some pass → P
none_some stop pass none some = let both : ◌≡◌ {A = Option ℕ} None (Some pass) = sym none ∙ some in absurd cc

exchanged : {A : Type 0} (second : Bool) (x y : A) → one_of x y (not second) ≡ one_of y x second
exchanged false x y = refl
exchanged true x y = refl

module _ {D : Type 0} (faults : D → ℕ) where
  -- nothing happened
  pub NoneFailed-same : (s : StoreView D) → NoneFailed faults s s
  NoneFailed-same s = record { first = refl; second = refl }

  -- from one moment to a later one, and to a later one still
  pub NoneFailed-on : (old mid new : StoreView D) → NoneFailed faults old mid → NoneFailed faults mid new → NoneFailed faults old new
  NoneFailed-on old mid new one other = record { first = other.first ∙ one.first; second = other.second ∙ one.second }

  -- a disk in the place of one with the same count
  in_front : (second : Bool) (old new other : D) → faults new ≡ faults old → faults (one_of new other second) ≡ faults (one_of old other second)
  in_front false old new other same = same
  in_front true old new other same = refl

  at_back : (second : Bool) (old new other : D) → faults new ≡ faults old → faults (one_of other new second) ≡ faults (one_of other old second)
  at_back false old new other same = refl
  at_back true old new other same = same

  -- an event was kept
  pub NoneFailed-event : (old : StoreView D) (event : Event) (active : D) → faults active ≡ faults old.active → NoneFailed faults old (with_event old event active)
  NoneFailed-event old event active stood = record {
    first = in_front old.second_active old.active active old.other stood;
    second = at_back old.second_active old.active active old.other stood;
  }

  pub NoneFailed-step : (old new : StoreView D) (pass : ℕ) (clock : ℤ) (request : StepRequest) (reply : StoreReply) → Steps faults old pass clock request reply new → new.stop ≡ None → NoneFailed faults old new
  NoneFailed-step old _ pass clock request _ (steps.answered reply goes answers) running = NoneFailed-same old
  NoneFailed-step old _ pass clock request _ (steps.kept reply event active goes answers fits stood) running = NoneFailed-event old event active stood
  NoneFailed-step old _ pass clock request _ (steps.full reply event goes answers is_full) running = NoneFailed-same old
  NoneFailed-step old _ pass clock request _ (steps.failed reply event active goes answers fits risen) running = none_some (Some pass) pass running refl
  NoneFailed-step old _ pass clock request _ (steps.stopped earlier stop) running = NoneFailed-same old
  NoneFailed-step old _ pass clock request _ (steps.without_memory goes) running = NoneFailed-same old

  pub NoneFailed-checkpoint : (old new : StoreView D) (pass : ℕ) (reply : CheckpointReply) → MakesCheckpoint faults old pass reply new → new.stop ≡ None → NoneFailed faults old new
  NoneFailed-checkpoint old _ pass _ (makes.made active goes fits stood) running = record {
    first = ap faults (exchanged old.second_active active old.active) ∙ at_back old.second_active old.other active old.active stood;
    second = ap faults (exchanged old.second_active old.active active) ∙ in_front old.second_active old.other active old.active stood;
  }
  NoneFailed-checkpoint old _ pass _ (makes.full goes over) running = NoneFailed-same old
  NoneFailed-checkpoint old _ pass _ (makes.failed other goes fits risen) running = none_some (Some pass) pass running refl
  NoneFailed-checkpoint old _ pass _ (makes.stopped earlier stop) running = NoneFailed-same old
  NoneFailed-checkpoint old _ pass _ (makes.without_memory goes) running = NoneFailed-same old
