-- How a script ends that is halted, and which calls of its streams failed by then (this project's own).
use Rattle.std.specs.Prelude.{◌≡◌, ℕ}
use Rattle.pcfs_session.specs.declared.outbox.SendFault.{SendFault}
use Rattle.pcfs_session.specs.declared.outbox.SendFault.TheVariants.{Write, NoMemory}
use Rattle.pcfs_session.specs.declared.script_end.Halt.{Halt}
use Rattle.pcfs_session.specs.declared.script_end.Halt.TheVariants.{Unsent, Stopped}
use Rattle.pcfs_session.specs.declared.script_end.ScriptEnd.{ScriptEnd}
use Rattle.pcfs_session.specs.declared.script_end.ScriptEnd.TheVariants as script_ends
use Rattle.pcfs_session.specs.Streams.{Streams}

-- if a reply was not sent
abbrev pub unsent_end : SendFault → ScriptEnd
unsent_end Write = script_ends.WriteFault
unsent_end NoMemory = script_ends.NoMemory

-- if no further line is answered
abbrev pub halted_end : Halt → ScriptEnd
halted_end (Unsent fault) = unsent_end fault
halted_end Stopped = script_ends.Stopped

-- no call of the output failed, unless no further line is answered because of that: its count of
-- faults stands still
abbrev pub HaltStandsStill : Halt → ℕ → ℕ → Type 0
HaltStandsStill (Unsent Write) before after = Unit {0}
HaltStandsStill (Unsent NoMemory) before after = after ≡ before
HaltStandsStill Stopped before after = after ≡ before

-- no call of the input failed, unless the script ends by that
abbrev pub InputStandsStill : ScriptEnd → ℕ → ℕ → Type 0
InputStandsStill script_ends.Done before after = after ≡ before
InputStandsStill script_ends.LineTooLong before after = after ≡ before
InputStandsStill script_ends.ReadFault before after = Unit {0}
InputStandsStill script_ends.WriteFault before after = after ≡ before
InputStandsStill script_ends.NoMemory before after = after ≡ before
InputStandsStill script_ends.InputTooLong before after = after ≡ before
InputStandsStill script_ends.Stopped before after = after ≡ before

-- and none of the output
abbrev pub OutputStandsStill : ScriptEnd → ℕ → ℕ → Type 0
OutputStandsStill script_ends.Done before after = after ≡ before
OutputStandsStill script_ends.LineTooLong before after = after ≡ before
OutputStandsStill script_ends.ReadFault before after = after ≡ before
OutputStandsStill script_ends.WriteFault before after = Unit {0}
OutputStandsStill script_ends.NoMemory before after = after ≡ before
OutputStandsStill script_ends.InputTooLong before after = after ≡ before
OutputStandsStill script_ends.Stopped before after = after ≡ before

-- Unless a script ends by a fault of the input, no call of that failed, and unless by one of the
-- output, none of that; also where a port tells nothing of its bytes.
pub record NothingFailedBefore (before : Streams) (how : ScriptEnd) (after : Streams) : Type 0 where
  pub input : InputStandsStill how before.read_faults after.read_faults
  pub output : OutputStandsStill how before.write_faults after.write_faults
