-- How a session ends: what was taken, what was written, and where its replies are placed in the
-- history that others grow too. If the input does not tell what it has, or the output what it
-- holds, nothing is said of that (this project's own).
use Rattle.std.specs.Prelude.{◌≡◌, ◌⊎◌, ℕ, ◌*◌, ◌≤◌, ℤ, List, [], ◌∷◌, ◌++◌, length}
use Rattle.pcfs_ports.specs.declared.streams.TheConstants.{INPUT_LIMIT}
use Rattle.pcfs_ports.specs.Faults.{HasRisen}
use Rattle.pcfs_ports.specs.Observable.{with_back, ReadsToEnd, TakesFirst, HoldsSome}
use Rattle.line_text.specs.Lines.{lines_of}
use Rattle.line_framer.specs.Feeding.{AreShort}
use Rattle.line_wire.specs.declared.reply.LineReply.{LineReply}
use Rattle.line_wire.specs.declared.reply.LineReply.TheVariants.{TooLong}
use Rattle.line_wire.specs.ReplyText.{output_of}
use Rattle.tree_lock.specs.Seen.{PassView}
use Rattle.pcfs_store.specs.Entries.{StoreEntry}
use Rattle.line_text.specs.Greeting.{greeting_text}
use Rattle.session_history.specs.Output.{session_output}
use Rattle.session_history.specs.SessionState.{SessionState, guest_with}
use Rattle.session_history.specs.Placed.{LinesPlaced}
use Rattle.shared_store.specs.declared.entry.LockEntry.{LockEntry}
use Rattle.shared_store.specs.Turning.{pass_at}
use Rattle.shared_store.specs.Asking.{entries_seen, PassGoesOn, InEachHistory, HasSeenFault}
use Rattle.pcfs_session.specs.Streams.{Streams}
use Rattle.pcfs_session.specs.Taken.{AreTaken, AreAllTaken, IsCutAtLong}
use Rattle.pcfs_session.specs.declared.outbox.SendFault.{SendFault}
use Rattle.pcfs_session.specs.declared.outbox.SendFault.TheVariants.{Write}
use Rattle.session_service.specs.declared.session_end.SessionEnd.{SessionEnd}
use Rattle.session_service.specs.declared.session_end.SessionEnd.TheVariants.{Done, LineTooLong, ReadFault, WriteFault, InputTooLong}
use Rattle.session_service.specs.Ends.{unsent_end}
use Rattle.session_lines.specs.Turns.{CountsTurns}
use Rattle.session_service.specs.Said.{AreAnswered, SaysStopped, turns_of}
use Rattle.session_service.specs.Written.{HoldsButLast, HoldsUpToLast}

-- `Answered lines answers` says of lines that they were answered, with these replies
module _ (Answered : List (List ℕ) → List LineReply → Type 0) where
  -- how far a session is: it answered lines that were taken, each with its end; or the input was
  -- read to its end, and it answered all its lines, of which none is too long
  pub data IsUnderWayBy (before after : Streams) (answers : List LineReply) : Type 0 where
    while_reading : (lines : List (List ℕ)) → AreTaken before.left after.left lines →
        Answered lines answers → IsUnderWayBy before after answers
    all_read : (bytes : List ℕ) → ReadsToEnd before.left after.left bytes → AreShort bytes →
        Answered (lines_of bytes) answers → IsUnderWayBy before after answers

  -- What a session replies that ends so: to all lines of the input; to all lines that were taken
  -- with their ends; or to these, and that the line after them is too long, which is the last
  -- reply.
  pub data SessionRepliesBy (before after : Streams) : SessionEnd → List LineReply → Type 0 where
    done : (bytes : List ℕ) (answers : List LineReply) → ReadsToEnd before.left after.left bytes →
        AreShort bytes → Answered (lines_of bytes) answers →
        SessionRepliesBy before after Done answers
    line_too_long : (lines : List (List ℕ)) (answers : List LineReply) →
        IsCutAtLong before.left after.left lines → Answered lines answers →
        SessionRepliesBy before after LineTooLong (answers ++ TooLong ∷ [])
    read_fault : (lines : List (List ℕ)) (answers : List LineReply) →
        HasRisen before.read_faults after.read_faults → AreAllTaken before.left after.left lines →
        Answered lines answers → SessionRepliesBy before after ReadFault answers
    input_too_long : (lines : List (List ℕ)) (answers : List LineReply) →
        TakesFirst INPUT_LIMIT before.left after.left → AreAllTaken before.left after.left lines →
        Answered lines answers → SessionRepliesBy before after InputTooLong answers

  -- How a session with this nonce ends: the greeting and all those replies were written. Or the
  -- output failed at the greeting, of which some first part was written: no line was answered, and
  -- nothing was taken of the input. Or the output failed or memory ran out later: the greeting was
  -- written, and of the lines that were answered all replies but the last, of which some first part
  -- was, or that the next line is too long.
  pub data SessionEndsBy (nonce : List ℕ) (before : Streams) : SessionEnd → Streams → Type 0 where
    written : (how : SessionEnd) (after : Streams) (answers : List LineReply) →
        SessionRepliesBy before after how answers →
        after.held ≡ with_back before.held (session_output nonce answers) →
        SessionEndsBy nonce before how after
    greeting_cut_short : (after : Streams) →
        HasRisen before.write_faults after.write_faults →
        after.left ≡ before.left → after.read_faults ≡ before.read_faults →
        HoldsSome before.held after.held (greeting_text nonce ++ 10 ∷ []) → Answered [] [] →
        SessionEndsBy nonce before WriteFault after
    cut_short : (fault : SendFault) (after : Streams) (answers : List LineReply) →
        (fault ≡ Write → HasRisen before.write_faults after.write_faults) →
        IsUnderWayBy before after answers →
        HoldsUpToLast nonce before.held after.held answers →
        SessionEndsBy nonce before (unsent_end fault) after
    cut_at_long_line : (fault : SendFault) (after : Streams) (answers : List LineReply) →
        (fault ≡ Write → HasRisen before.write_faults after.write_faults) →
        SessionRepliesBy before after LineTooLong answers →
        HoldsUpToLast nonce before.held after.held answers →
        SessionEndsBy nonce before (unsent_end fault) after

module _ {D : Type 0} (faults : D → ℕ) (gives : List StoreEntry → ℤ → Type 0) (nonce : List ℕ) where
  -- A session with this nonce answered these lines, from one moment of its pass to a later one. In
  -- each history that begins with what the pass has seen then, the replies are placed after all
  -- that it had seen at first; and the pass's own entries grew by those that the replies were
  -- given. That the store is stopped is told only if the pass has seen that a disk failed. The pass
  -- took at least as many turns as the replies come of, and at most two a line. And so each line
  -- was answered, from one moment of the pass to a later one.
  pub record Speaks (old new : PassView (LockEntry D)) (lines : List (List ℕ)) (answers : List LineReply) : Type 0 where
    pub end : SessionState
    pub to : ℕ
    pub within : to ≤ entries_seen new
    pub given : List StoreEntry
    pub goes_on : PassGoesOn old new given
    pub placed : InEachHistory new (λ opening entries.
        LinesPlaced gives (pass_at opening old.number) entries (guest_with nonce) (entries_seen old)
        lines answers end to given)
    pub stopped : SaysStopped answers → HasSeenFault faults new
    pub turns : CountsTurns (turns_of answers) (2 * length lines) old.turns new.turns
    pub answered : AreAnswered gives (guest_with nonce) old lines answers end new

  -- each of these, of lines that were answered from one moment of a pass to a later one
  abbrev pub IsUnderWay : PassView (LockEntry D) → PassView (LockEntry D) → Streams → Streams →
      List LineReply → Type 0
  IsUnderWay old new before after answers = IsUnderWayBy (Speaks old new) before after answers

  abbrev pub SessionReplies : PassView (LockEntry D) → PassView (LockEntry D) → Streams → Streams →
      SessionEnd → List LineReply → Type 0
  SessionReplies old new before after how answers =
      SessionRepliesBy (Speaks old new) before after how answers

  abbrev pub SessionEnds : PassView (LockEntry D) → PassView (LockEntry D) → Streams →
      SessionEnd → Streams → Type 0
  SessionEnds old new before how after = SessionEndsBy (Speaks old new) nonce before how after

  -- How a session goes on to its end after the greeting is out.
  pub data GoesOnToEnd (old new : PassView (LockEntry D)) (before : Streams) : SessionEnd →
      Streams → Type 0 where
    rest_written : (how : SessionEnd) (after : Streams) (answers : List LineReply) →
        SessionReplies old new before after how answers →
        after.held ≡ with_back before.held (output_of answers) →
        GoesOnToEnd old new before how after
    rest_cut_short : (fault : SendFault) (after : Streams) (answers : List LineReply) →
        (fault ≡ Write → HasRisen before.write_faults after.write_faults) →
        IsUnderWay old new before after answers →
        HoldsButLast before.held after.held answers →
        GoesOnToEnd old new before (unsent_end fault) after
    rest_cut_at_long_line : (fault : SendFault) (after : Streams) (answers : List LineReply) →
        (fault ≡ Write → HasRisen before.write_faults after.write_faults) →
        SessionReplies old new before after LineTooLong answers →
        HoldsButLast before.held after.held answers →
        GoesOnToEnd old new before (unsent_end fault) after

-- If anything was taken of the input, or a call of it failed, the output holds the greeting
-- with its end.
abbrev pub GreetsFirst : List ℕ → Streams → Streams → Type 0
GreetsFirst nonce before after = ((after.left ≡ before.left) × (after.read_faults ≡ before.read_faults)) ⊎
    ((more : List ℕ) × (after.held ≡ with_back before.held ((greeting_text nonce ++ 10 ∷ []) ++ more)))
