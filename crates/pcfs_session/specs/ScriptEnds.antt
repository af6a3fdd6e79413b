-- How a script ends that is taken from an input and answered from a start: what was taken and what
-- was written. If the input does not tell what it has, or the output what it holds, nothing is said
-- of that (this project's own).
use Rattle.std.specs.Prelude.{◌≡◌, ℕ, List, [], ◌∷◌, ◌++◌, Some, None}
use Rattle.pcfs_ports.specs.declared.streams.TheConstants.{INPUT_LIMIT}
use Rattle.pcfs_ports.specs.Faults.{HasRisen}
use Rattle.pcfs_ports.specs.Observable.{with_back, ReadsToEnd, TakesFirst}
use Rattle.line_text.specs.Lines.{lines_of}
use Rattle.line_framer.specs.Feeding.{AreShort}
use Rattle.journal_records.specs.declared.event.Event.{Event}
use Rattle.access_history.specs.Headline.{Headline}
use Rattle.line_wire.specs.declared.reply.LineReply.{LineReply}
use Rattle.line_wire.specs.declared.reply.LineReply.TheVariants.{TooLong}
use Rattle.line_wire.specs.ReplyText.{output_of}
use Rattle.pcfs_store.specs.Entries.{StoreEntry}
use Rattle.pcfs_session.specs.LineAnswer.{authority_under}
use Rattle.pcfs_session.specs.Outbox.{HoldsButBuffered}
use Rattle.pcfs_session.specs.ScriptRun.{ScriptState, state_of_standing, ScriptRun}
use Rattle.pcfs_session.specs.Streams.{Streams}
use Rattle.pcfs_session.specs.Taken.{AreTaken, AreAllTaken, IsCutAtLong}
use Rattle.pcfs_session.specs.declared.script_end.ScriptEnd.{ScriptEnd}
use Rattle.pcfs_session.specs.declared.script_end.ScriptEnd.TheVariants.{Done, LineTooLong, ReadFault, WriteFault, NoMemory, InputTooLong, Stopped}

-- a line with its end
abbrev pub with_line_end : List ℕ → List ℕ
with_line_end line = line ++ 10 ∷ []

-- a script was run over these lines from a start to an end, with these replies; and the headline
-- holds of the history at the end, which goes on from that of the start
pub record RunsOver (start : ScriptState) (lines : List (List ℕ)) (end : ScriptState)
    (replies : List LineReply) : Type 0 where
  pub added : List Event
  pub run : ScriptRun start lines replies end
  pub base_stays : end.base ≡ start.base
  pub events_are : end.events ≡ start.events ++ added
  pub headline : Headline (authority_under start.secrets) end.base end.events (state_of_standing end).world

-- how far a script is: it was run over lines that were taken, each with its end; or the input was
-- read to its end, and it was run over all its lines, of which none is too long
pub data IsUnderWay (start end : ScriptState) (before after : Streams)
    (replies : List LineReply) : Type 0 where
  while_reading : (lines : List (List ℕ)) → AreTaken before.left after.left lines →
      RunsOver start lines end replies → IsUnderWay start end before after replies
  all_read : (bytes : List ℕ) → ReadsToEnd before.left after.left bytes → AreShort bytes →
      RunsOver start (lines_of bytes) end replies → IsUnderWay start end before after replies

-- what a script that ends so has to write, a line for each of these replies: those to all lines of
-- the input; those to all lines that were taken with their ends, and if the next one is too long,
-- that it is; or those to the first lines, of which the last met the fault of a disk
pub data ScriptWrites (start end : ScriptState) (before after : Streams) : ScriptEnd →
    List LineReply → Type 0 where
  done : (bytes : List ℕ) (replies : List LineReply) → ReadsToEnd before.left after.left bytes →
      AreShort bytes → RunsOver start (lines_of bytes) end replies → end.met ≡ None →
      ScriptWrites start end before after Done replies
  line_too_long : (lines : List (List ℕ)) (replies : List LineReply) →
      IsCutAtLong before.left after.left lines → RunsOver start lines end replies →
      end.met ≡ None →
      ScriptWrites start end before after LineTooLong (replies ++ TooLong ∷ [])
  read_fault : (lines : List (List ℕ)) (replies : List LineReply) →
      HasRisen before.read_faults after.read_faults → AreAllTaken before.left after.left lines →
      RunsOver start lines end replies → end.met ≡ None →
      ScriptWrites start end before after ReadFault replies
  input_too_long : (lines : List (List ℕ)) (replies : List LineReply) →
      TakesFirst INPUT_LIMIT before.left after.left → AreAllTaken before.left after.left lines →
      RunsOver start lines end replies → end.met ≡ None →
      ScriptWrites start end before after InputTooLong replies
  stopped : (replies : List LineReply) (met : StoreEntry) →
      IsUnderWay start end before after replies → end.met ≡ Some met →
      ScriptWrites start end before after Stopped replies

-- How a script ends: all of that was written. Or the output failed or memory ran out, and some
-- first part was written of the replies to the first lines, or of what is written at a line that is
-- too long: if memory ran out, at least all replies but the last; if the output failed, these but
-- for at most so many bytes, which were buffered. If memory ran out, no line met the fault of a
-- disk.
pub data ScriptEnds (buffered : ℕ) (start end : ScriptState) (before after : Streams) :
    ScriptEnd → Type 0 where
  written : (how : ScriptEnd) (replies : List LineReply) →
      ScriptWrites start end before after how replies →
      after.held ≡ with_back before.held (output_of replies) →
      ScriptEnds buffered start end before after how
  cut_short : (replies : List LineReply) → HasRisen before.write_faults after.write_faults →
      IsUnderWay start end before after replies →
      HoldsButBuffered buffered before.held after.held replies →
      ScriptEnds buffered start end before after WriteFault
  cut_at_long_line : (replies : List LineReply) →
      HasRisen before.write_faults after.write_faults →
      ScriptWrites start end before after LineTooLong replies →
      HoldsButBuffered buffered before.held after.held replies →
      ScriptEnds buffered start end before after WriteFault
  out_of_memory : (replies : List LineReply) → IsUnderWay start end before after replies →
      end.met ≡ None → HoldsButBuffered 0 before.held after.held replies →
      ScriptEnds buffered start end before after NoMemory
  out_of_memory_at_long_line : (replies : List LineReply) →
      ScriptWrites start end before after LineTooLong replies →
      HoldsButBuffered 0 before.held after.held replies →
      ScriptEnds buffered start end before after NoMemory
