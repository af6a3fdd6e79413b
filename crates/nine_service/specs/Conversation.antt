-- What the connection of a number was told that speaks 9P2000 (this project's own).
use Rattle.std.specs.Prelude.{◌≡◌, ℕ, List, Option}
use Rattle.pcfs_server.specs.Ends.{FailedLast}
use Rattle.nine_messages.specs.Requests.{MessageView}
use Rattle.nine_messages.specs.Replies.{ReplyView}
use Rattle.nine_front.specs.declared.nine_end.NineEnd.{NineEnd}
use Rattle.nine_front.specs.declared.nine_end.NineEnd.TheVariants.{ReadFault, WriteFault}
use Rattle.nine_front.specs.Ends.{NineEndsBy, NothingFailedBefore}
use Rattle.session_service.specs.Conversation.{ConnectionTells, IsConnectionOf, streams_at, AreThese}

-- On the connection of a number these messages were answered with these replies: from its input and
-- its output as they were when it was accepted, if the listener told them, to an input and an output
-- of their types, at the end, that tell what a connection that ended so leaves. So at Done the output
-- holds what it held, and then these replies, and these messages are all of the input; where the
-- output failed or memory ran out, some of the last may be missing, and more of the input may have
-- been read than was answered. If an input or an output does not tell its bytes, nothing is said of these.
pub record IsNineConversation {I O : Type 0} (tells : ConnectionTells I O) (queue : Option (List (I × O)))
    (number : ℕ) (messages : List MessageView) (replies : List ReplyView) : Type 0 where
  pub input : I
  pub output : O
  pub accepted : IsConnectionOf queue number input output
  pub how : NineEnd
  pub input_after : I
  pub output_after : O
  pub ends : NineEndsBy (AreThese messages replies) (streams_at tells input output) how
      (streams_at tells input_after output_after)
  pub nothing_failed : NothingFailedBefore (streams_at tells input output) how
      (streams_at tells input_after output_after)
  pub read_failed : how ≡ ReadFault → FailedLast (tells.read_faults input)
      (tells.read_faults input_after) (tells.read_broken input_after)
  pub write_failed : how ≡ WriteFault → FailedLast (tells.write_faults output)
      (tells.write_faults output_after) (tells.write_broken output_after)
