-- What the fields of a store stand for.
use Rattle.std.specs.Prelude.{◌≡◌, ℕ, Bool, List, Option, None}
use Rattle.journal_core.specs.AreaView.{AreaView}
use Rattle.op_gate.specs.Decision.{GateView}
use Rattle.pcfs_store.specs.declared.checkpoints.Checkpoint.{Checkpoint}
use Rattle.pcfs_store.specs.StoreView.{StoreView, IsStore}

-- the store of these fields: what is pending is the event under which the disk failed
abbrev pub store_of : {D : Type 0} → AreaView D → D → Bool → ℕ → List ℕ → GateView →
    List Checkpoint → Option ℕ → StoreView D
store_of area other second_active generation opened gate checkpoints stop = record {
  active = area.disk;
  other = other;
  second_active = second_active;
  generation = generation;
  used = area.end;
  key = gate.key;
  ring = gate.ring;
  base = gate.base;
  opened = opened;
  events = gate.events;
  checkpoints = checkpoints;
  stop = stop;
  met = gate.pending;
}

-- the fields keep what a store keeps, and nothing is pending as long as no disk has failed
pub record IsKeeping {D : Type 0} (area : AreaView D) (other : D) (second_active : Bool)
    (generation : ℕ) (opened : List ℕ) (gate : GateView) (checkpoints : List Checkpoint)
    (stop : Option ℕ) : Type 0 where
  pub store : IsStore (store_of area other second_active generation opened gate checkpoints stop)
  pub idle : stop ≡ None → gate.pending ≡ None
