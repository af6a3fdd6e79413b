-- What a request comes to, as the code says it.
use Rattle.std.specs.Prelude.{◌≡◌, ◌⊎◌, ℕ, List, length, true, false, not, nat_le, ◌&&◌, ◌==◌, Option}
use Rattle.nine_messages.specs.Requests.{RequestView}
use Rattle.nine_fids.specs.declared.limits.TheConstants.{MOST_PROCAPS}
use Rattle.nine_fids.specs.declared.control.Control.{Control}
use Rattle.nine_fids.specs.declared.step.Step.{Step}
use Rattle.nine_fids.specs.declared.connection.Connection.{Connection}
use Rattle.nine_fids.specs.Memory.{IsOperation}
use Rattle.nine_fids.specs.States.{fid_at, is_full}
use Rattle.nine_fids.specs.Tests.{IsAskedAt, IsAskedBy, brings_procap, write_tests}
use Rattle.nine_fids.specs.Steps.{tested, write_outcome, decided}

-- the request comes to this step, and to the state after it
pub record IsTaken (s : Connection) (m : RequestView) (step : Step) (after : Connection) : Type 0 where
  pub asked : Option Control
  pub asks : IsAskedBy s m asked
  pub is : (step, after) ≡ decided s asked m

-- a write comes to this step, and to the state after it
pub record IsWritten (s : Connection) (fid offset : ℕ) (bytes : List ℕ) (after : Connection) (step : Step) : Type 0 where
  pub asked : Option Control
  pub asks : IsAskedAt s.is_agreed (fid_at s fid) bytes asked
  pub is : (step, after) ≡ tested s (write_tests s asked fid) (write_outcome s asked fid offset (length bytes))

-- there is room for the fid that a walk makes
abbrev pub CanWalk : Connection → ℕ → ℕ → Type 0
CanWalk s fid newfid = (not (fid == newfid) && is_full s) ≡ false

-- a procap that is brought has room
abbrev pub HasRoomInPurse : Connection → Option Control → Type 0
HasRoomInPurse s asked = (brings_procap asked && nat_le MOST_PROCAPS (length s.purse)) ≡ false

-- a procap that is brought is put into the purse, or a node is read or written
abbrev pub IsCopied : Option Control → Step → Type 0
IsCopied asked step = (brings_procap asked ≡ true) ⊎ IsOperation step
