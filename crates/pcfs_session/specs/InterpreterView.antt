-- An interpreter, as callers see it (this project's own).
use Rattle.std.specs.Prelude.{Option}
use Rattle.pcfs_store.specs.Entries.{StoreEntry}
use Rattle.pcfs_store.specs.StoreView.{StoreView}
use Rattle.pcfs_session.specs.ScriptContext.{ScriptContext}
use Rattle.pcfs_session.specs.ScriptRun.{ScriptState}

-- a store, and who asks it
pub record InterpreterView (D : Type 0) : Type 0 where
  pub store : StoreView D
  pub asker : ScriptContext

-- where lines are answered over a store, for whoever asks; and the event or the checkpoint for
-- which a disk failed, if one did
abbrev pub standing_over : {D : Type 0} → StoreView D → Option StoreEntry → ScriptContext → ScriptState
standing_over s met asker = record {
  secrets = record { seal_key = s.key; ring = s.ring };
  base =
      s.base;
  events = s.events;
  checkpoints = s.checkpoints;
  generation = s.generation;
  used =
      s.used;
  met = met;
  asker = asker;
}

abbrev pub standing_of : {D : Type 0} → InterpreterView D → Option StoreEntry → ScriptState
standing_of i met = standing_over i.store met i.asker
