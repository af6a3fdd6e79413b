-- What the output of a connection that speaks 9P2000 holds at its end, by how that ended. If the
-- output does not tell what it holds, nothing is said of that (this project's own).
use Rattle.std.specs.Prelude.{◌≡◌, ℕ, List, Option}
use Rattle.pcfs_ports.specs.Observable.{with_back}
use Rattle.nine_messages.specs.Requests.{MessageView}
use Rattle.nine_messages.specs.Replies.{ReplyView}
use Rattle.nine_front.specs.Taken.{output_of, HoldsButLast}
use Rattle.nine_front.specs.declared.nine_end.NineEnd.{NineEnd}
use Rattle.nine_front.specs.declared.nine_end.NineEnd.TheVariants as ends

-- beside what it held, all replies to these messages
abbrev pub HoldsAll : Option (List ℕ) → Option (List ℕ) → List MessageView → List ReplyView → Type 0
HoldsAll held new messages replies = new ≡ with_back held (output_of messages replies)

-- what it holds after a connection on which these messages were answered with these replies: all;
-- if the output failed or memory ran out, of the last some first part
abbrev pub HoldsAtEnd : NineEnd → Option (List ℕ) → Option (List ℕ) → List MessageView →
    List ReplyView → Type 0
HoldsAtEnd ends.Done held new messages replies = HoldsAll held new messages replies
HoldsAtEnd ends.BadMessage held new messages replies = HoldsAll held new messages replies
HoldsAtEnd ends.ReadFault held new messages replies = HoldsAll held new messages replies
HoldsAtEnd ends.WriteFault held new messages replies = HoldsButLast held new messages replies
HoldsAtEnd ends.NoMemory held new messages replies = HoldsButLast held new messages replies
HoldsAtEnd ends.InputTooLong held new messages replies = HoldsAll held new messages replies
