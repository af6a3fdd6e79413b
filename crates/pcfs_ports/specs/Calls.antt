-- The calls of a port in memory, and which of them are to fail. This project's own.
use Rattle.std.specs.Prelude.{ℕ, ◌≤◌, ◌⊎◌, Bool, true, false, List, [], Option, None, Some, IsSomeAnd, Contains}
use Rattle.pcfs_ports.specs.Faults.{raise}

-- Calls are numbered from 0.
pub record CallPlanView : Type 0 where
  -- the numbers of the calls that fail
  pub failing : List ℕ
  -- the number from which on all calls fail, if there is one
  pub fuse : Option ℕ
  -- how many were made, which is the number of the next
  pub made : ℕ
  -- how many faults there were
  pub faults : ℕ
  -- whether the last call failed
  pub broken : Bool

-- no call was made
abbrev pub no_calls : List ℕ → CallPlanView
no_calls failing = record { failing = failing; fuse = None; made = 0; faults = 0; broken = false }

-- no call was made, and all fail from this number on
abbrev pub no_fused_calls : ℕ → CallPlanView
no_fused_calls first = record { failing = []; fuse = Some first; made = 0; faults = 0; broken = false }

-- the next call is one that fails
abbrev pub FailsNext : CallPlanView → Type 0
FailsNext calls = Contains calls.failing calls.made ⊎
    IsSomeAnd calls.fuse (λ first. first ≤ calls.made)

-- one more call was made
abbrev pub after_call : CallPlanView → CallPlanView
after_call calls = record calls { made = raise calls.made; broken = false }

-- one more call was made, and failed
abbrev pub after_failed_call : CallPlanView → CallPlanView
after_failed_call calls =
    record calls { made = raise calls.made; faults = raise calls.faults; broken = true }
