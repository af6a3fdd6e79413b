-- What a sink in memory is seen as. This project's own.
use Rattle.std.specs.Prelude.{ℕ, List, ◌++◌}
use Rattle.pcfs_ports.specs.Faults.{raise}
use Rattle.pcfs_ports.specs.Calls.{CallPlanView, after_call, after_failed_call}

pub record MemorySinkView : Type 0 where
  -- the bytes that were written
  pub held : List ℕ
  pub calls : CallPlanView
  -- how many growths were refused
  pub refused : ℕ

-- a call wrote these bytes
abbrev pub after_write : MemorySinkView → List ℕ → MemorySinkView
after_write state bytes =
    record state { held = state.held ++ bytes; calls = after_call state.calls }

-- a call failed, as it was to
abbrev pub after_failed_write : MemorySinkView → MemorySinkView
after_failed_write state = record state { calls = after_failed_call state.calls }

-- a call failed, since a growth was refused
abbrev pub after_refused_write : MemorySinkView → MemorySinkView
after_refused_write state =
    record state { calls = after_failed_call state.calls; refused = raise state.refused }
