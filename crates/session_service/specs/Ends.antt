-- How a session ends of which a reply was not sent (this project's own).
use Rattle.std.specs.Prelude.{◌≡◌, ℕ}
use Rattle.pcfs_session.specs.Streams.{Streams}
use Rattle.pcfs_session.specs.declared.outbox.SendFault.{SendFault}
use Rattle.pcfs_session.specs.declared.outbox.SendFault.TheVariants.{Write, NoMemory}
use Rattle.session_service.specs.declared.session_end.SessionEnd.{SessionEnd}
use Rattle.session_service.specs.declared.session_end.SessionEnd.TheVariants as session_ends

abbrev pub unsent_end : SendFault → SessionEnd
unsent_end Write = session_ends.WriteFault
unsent_end NoMemory = session_ends.NoMemory

-- no call of the input failed, unless the session ends by that: its count of faults stands still
abbrev pub InputStandsStill : SessionEnd → ℕ → ℕ → Type 0
InputStandsStill session_ends.Done before after = after ≡ before
InputStandsStill session_ends.LineTooLong before after = after ≡ before
InputStandsStill session_ends.ReadFault before after = Unit {0}
InputStandsStill session_ends.WriteFault before after = after ≡ before
InputStandsStill session_ends.NoMemory before after = after ≡ before
InputStandsStill session_ends.InputTooLong before after = after ≡ before

-- and none of the output
abbrev pub OutputStandsStill : SessionEnd → ℕ → ℕ → Type 0
OutputStandsStill session_ends.Done before after = after ≡ before
OutputStandsStill session_ends.LineTooLong before after = after ≡ before
OutputStandsStill session_ends.ReadFault before after = after ≡ before
OutputStandsStill session_ends.WriteFault before after = Unit {0}
OutputStandsStill session_ends.NoMemory before after = after ≡ before
OutputStandsStill session_ends.InputTooLong before after = after ≡ before

-- Unless a session ends by a fault of the input, no call of that failed, and unless by one of the
-- output, none of that; also where a port tells nothing of its bytes.
pub record NothingFailedBefore (before : Streams) (how : SessionEnd) (after : Streams) : Type 0 where
  pub input : InputStandsStill how before.read_faults after.read_faults
  pub output : OutputStandsStill how before.write_faults after.write_faults
