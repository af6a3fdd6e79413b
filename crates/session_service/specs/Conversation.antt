-- What the connection of a number was told (this project's own).
use Rattle.std.specs.Prelude.{◌≡◌, ℕ, ◌-◌, List, Bool, Option}
use Rattle.line_wire.specs.declared.reply.LineReply.{LineReply}
use Rattle.pcfs_ports.specs.Telling.{IsAt}
use Rattle.pcfs_server.specs.Ends.{FailedLast}
use Rattle.pcfs_session.specs.Streams.{Streams, streams_of}
use Rattle.session_service.specs.declared.session_end.SessionEnd.{SessionEnd}
use Rattle.session_service.specs.declared.session_end.SessionEnd.TheVariants.{ReadFault, WriteFault}
use Rattle.session_service.specs.Ends.{NothingFailedBefore}
use Rattle.session_service.specs.SessionEnds.{SessionEndsBy, GreetsFirst}

-- what inputs and outputs of connections tell of themselves: the bytes that an input still has to
-- give and those that an output holds, if they are told; how many faults each has had, and whether
-- its last call failed
pub record ConnectionTells (I O : Type 0) : Type 0 where
  pub left : I → Option (List ℕ)
  pub read_faults : I → ℕ
  pub read_broken : I → Bool
  pub held : O → Option (List ℕ)
  pub write_faults : O → ℕ
  pub write_broken : O → Bool

abbrev pub tells_of : {I O : Type 0} → (I → Option (List ℕ)) → (I → ℕ) → (I → Bool) →
    (O → Option (List ℕ)) → (O → ℕ) → (O → Bool) → ConnectionTells I O
tells_of left read_faults read_broken held write_faults write_broken = record {
  left = left;
  read_faults = read_faults;
  read_broken = read_broken;
  held = held;
  write_faults = write_faults;
  write_broken = write_broken;
}

-- what this input and this output tell at one moment
abbrev pub streams_at : {I O : Type 0} → ConnectionTells I O → I → O → Streams
streams_at tells input output = streams_of tells.left tells.read_faults tells.held tells.write_faults input output

-- if it is told which connections come, these are the input and the output of the connection of
-- this number, from 1, as they are when it is accepted
abbrev pub IsConnectionOf : {I O : Type 0} → Option (List (I × O)) → ℕ → I → O → Type 0
IsConnectionOf queue number input output = IsAt queue (number - 1) input output

-- what was answered is this, with these replies
abbrev pub AreThese : {A R : Type 0} → List A → List R → List A → List R → Type 0
AreThese lines answers answered replies = (answered ≡ lines) × (replies ≡ answers)

-- The connection of a number had a session with this nonce, in which these lines were answered with
-- these replies: from its input and its output as they were when it was accepted, if the listener
-- told them, to an input and an output of their types, at the end, that tell what a session that
-- ended so leaves. So at Done the output holds what it held, and then the greeting and these replies,
-- and these lines are all of the input; where the output failed or memory ran out, some of the last
-- reply may be missing, and more of the input may have been read than was answered; where the output
-- failed at it, some of the greeting, and no line was answered. If an input or an output does not
-- tell its bytes, nothing is said of these.
pub record IsConversation {I O : Type 0} (tells : ConnectionTells I O) (queue : Option (List (I × O)))
    (number : ℕ) (nonce : List ℕ) (lines : List (List ℕ)) (answers : List LineReply) : Type 0 where
  pub input : I
  pub output : O
  pub accepted : IsConnectionOf queue number input output
  pub how : SessionEnd
  pub input_after : I
  pub output_after : O
  pub ends : SessionEndsBy (AreThese lines answers) nonce (streams_at tells input output) how
      (streams_at tells input_after output_after)
  pub greets_first : GreetsFirst nonce (streams_at tells input output)
      (streams_at tells input_after output_after)
  pub nothing_failed : NothingFailedBefore (streams_at tells input output) how
      (streams_at tells input_after output_after)
  pub read_failed : how ≡ ReadFault → FailedLast (tells.read_faults input)
      (tells.read_faults input_after) (tells.read_broken input_after)
  pub write_failed : how ≡ WriteFault → FailedLast (tells.write_faults output)
      (tells.write_faults output_after) (tells.write_broken output_after)
