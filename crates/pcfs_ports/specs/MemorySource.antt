-- What a source in memory is seen as. This project's own.
use Rattle.std.specs.Prelude.{ℕ, List, drop}
use Rattle.pcfs_ports.specs.Calls.{CallPlanView, after_call, after_failed_call}

pub record MemorySourceView : Type 0 where
  -- the bytes that are still to come
  pub left : List ℕ
  pub calls : CallPlanView

-- a call took this many bytes
abbrev pub after_read : MemorySourceView → ℕ → MemorySourceView
after_read state count = record { left = drop count state.left; calls = after_call state.calls }

-- a call failed
abbrev pub after_failed_read : MemorySourceView → MemorySourceView
after_failed_read state = record state { calls = after_failed_call state.calls }
