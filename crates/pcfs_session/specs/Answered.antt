-- What calls do that answer lines, from one place of a script to a later one (this project's own).
use Rattle.std.specs.Prelude.{◌≡◌, ◌⊎◌, ℕ, List, [], ◌∷◌, ◌++◌, Option, Some, None}
use Rattle.pcfs_ports.specs.Observable.{with_back, HoldsSome}
use Rattle.line_text.specs.Lines.{lines_of}
use Rattle.line_text.specs.Words.{HasNo}
use Rattle.line_framer.specs.Framing.{ended}
use Rattle.line_framer.specs.Scanning.{HasLong}
use Rattle.line_framer.specs.Feeding.{AreShort}
use Rattle.line_wire.specs.declared.reply.LineReply.{LineReply}
use Rattle.line_wire.specs.declared.reply.LineReply.TheVariants.{TooLong}
use Rattle.line_wire.specs.ReplyText.{reply_text, output_of}
use Rattle.pcfs_store.specs.Entries.{StoreEntry}
use Rattle.session_loop.specs.Written.{but_last}
use Rattle.pcfs_session.specs.Ends.{unsent_end, halted_end}
use Rattle.pcfs_session.specs.InterpreterView.{InterpreterView, standing_of}
use Rattle.pcfs_session.specs.Outbox.{GoesOut, HoldsAllBut, missing_after}
use Rattle.pcfs_session.specs.ScriptRun.{ScriptRun}
use Rattle.pcfs_session.specs.Stored.{StoreGoesOn}
use Rattle.pcfs_session.specs.Taken.{AreFirst}
use Rattle.pcfs_session.specs.declared.outbox.SendFault.{SendFault}
use Rattle.pcfs_session.specs.declared.outbox.SendFault.TheVariants.{Write, NoMemory}
use Rattle.pcfs_session.specs.declared.script_end.Halt.{Halt}
use Rattle.pcfs_session.specs.declared.script_end.Halt.TheVariants.{Unsent, Stopped}
use Rattle.pcfs_session.specs.declared.script_end.ScriptEnd.{ScriptEnd}
use Rattle.pcfs_session.specs.declared.script_end.ScriptEnd.TheVariants as script_ends

-- what is out of all these bytes if no further line is answered: all of them; or some first part,
-- that lacks few of the earlier ones
abbrev pub IsOutAt : ℕ → Halt → Option (List ℕ) → Option (List ℕ) → List ℕ → List ℕ → Type 0
IsOutAt buffered (Unsent fault) held held_after earlier all =
    HoldsAllBut (missing_after buffered fault) held held_after earlier all
IsOutAt buffered Stopped held held_after earlier all = held_after ≡ with_back held all

-- after a fault of a disk there is the event or the checkpoint that met it; if memory ran out for a
-- reply, no disk failed; and if the output failed, one may have, just before
abbrev pub IsMetAt : Halt → Option StoreEntry → Type 0
IsMetAt (Unsent Write) met = Unit {0}
IsMetAt (Unsent NoMemory) met = met ≡ None
IsMetAt Stopped met = (entry : StoreEntry) × (met ≡ Some entry)

-- the line that tells that a line is too long
abbrev pub long_line_told : List ℕ
long_line_told = reply_text TooLong ++ 10 ∷ []

-- what was collected was written, and all lines were answered; or the output failed
abbrev pub IsFinished : List ℕ → Option (List ℕ) → ScriptEnd → Option (List ℕ) → Type 0
IsFinished collected held how held_after = ((how ≡ script_ends.Done) × (held_after ≡ with_back held collected)) ⊎
    ((how ≡ script_ends.WriteFault) × HoldsSome held held_after collected)

-- Below `clock`, `left_since`, `image` and `faults` tell of a disk what they do in `Stored`.
module _ {D : Type 0} (clock : D → ℕ) (left_since : D → ℕ → List ℕ → Type 0) (image : D → Option (List ℕ)) (faults : D → ℕ) where
  -- lines are answered by an interpreter with these replies, and its store goes on; the last one
  -- met the fault of a disk, if there is an entry
  pub record WasRun (lines : List (List ℕ)) (old new : InterpreterView D) (met : Option StoreEntry) (told : List LineReply) : Type 0 where
    pub run : ScriptRun (standing_of old None) lines told (standing_of new met)
    pub goes_on : StoreGoesOn clock left_since image faults old.store new.store met

  -- lines are answered, and no disk failed; what was collected and their replies were written, but
  -- for what is collected then
  pub record AreAnswered (lines : List (List ℕ)) (old new : InterpreterView D)
      (held : Option (List ℕ)) (collected : List ℕ) (held_after : Option (List ℕ))
      (collected_after : List ℕ) : Type 0 where
    pub told : List LineReply
    pub was : WasRun lines old new None told
    pub out : GoesOut held (collected ++ output_of told) held_after collected_after

  -- lines are answered, and no further one is
  pub record HaltsAt (buffered : ℕ) (lines : List (List ℕ)) (old new : InterpreterView D)
      (held : Option (List ℕ)) (collected : List ℕ) (halt : Halt) (held_after : Option (List ℕ)) :
      Type 0 where
    pub told : List LineReply
    pub met : Option StoreEntry
    pub was : WasRun lines old new met told
    pub is_met : IsMetAt halt met
    pub out : IsOutAt buffered halt held held_after (collected ++ output_of (but_last told))
        (collected ++ output_of told)

  -- the lines of these bytes that have their end are answered, and these bytes are left
  pub record AnswersHeld (bytes left : List ℕ) (old new : InterpreterView D)
      (held : Option (List ℕ)) (collected : List ℕ) (held_after : Option (List ℕ))
      (collected_after : List ℕ) : Type 0 where
    pub lines : List (List ℕ)
    pub first : AreFirst bytes lines left
    pub no_more : HasNo 10 left
    pub answered : AreAnswered lines old new held collected held_after collected_after

  -- the first of them are answered, and no further line is
  pub record HaltsWithin (buffered : ℕ) (bytes : List ℕ) (old new : InterpreterView D)
      (held : Option (List ℕ)) (collected : List ℕ) (halt : Halt) (held_after : Option (List ℕ)) :
      Type 0 where
    pub lines : List (List ℕ)
    pub rest : List ℕ
    pub first : AreFirst bytes lines rest
    pub halts : HaltsAt buffered lines old new held collected halt held_after

  -- a piece comes after the bytes that were left; the lines that have their end then are answered,
  -- and all replies are out
  abbrev pub AnswersPiece : List ℕ → List ℕ → List ℕ → InterpreterView D → InterpreterView D →
      Option (List ℕ) → Option (List ℕ) → Type 0
  AnswersPiece before piece left old new held held_after = AnswersHeld (before ++ piece) left old new held [] held_after []

  -- how a script ends after these lines, since the next one is too long: that was written after
  -- their replies; or of all that some first part; or it halted at one of these lines
  pub data LongEnds (buffered : ℕ) (lines : List (List ℕ)) (old new : InterpreterView D)
      (held held_after : Option (List ℕ)) : ScriptEnd → Type 0 where
    long_told : (replies : List LineReply) → WasRun lines old new None replies →
        held_after ≡ with_back held (output_of replies ++ long_line_told) →
        LongEnds buffered lines old new held held_after script_ends.LineTooLong
    long_untold : (replies : List LineReply) (fault : SendFault) →
        WasRun lines old new None replies →
        HoldsAllBut (missing_after buffered fault) held held_after (output_of replies)
        (output_of replies ++ long_line_told) →
        LongEnds buffered lines old new held held_after (unsent_end fault)
    long_halted : (halt : Halt) →
        HaltsWithin buffered (ended lines) old new held [] halt held_after →
        LongEnds buffered lines old new held held_after (halted_end halt)

  -- how a script ends at a piece after the bytes that were left: a line is too long; or it halts at
  -- one of the lines that have their end
  pub data PieceEnds (buffered : ℕ) (before piece : List ℕ) (old new : InterpreterView D)
      (held held_after : Option (List ℕ)) : ScriptEnd → Type 0 where
    at_long_line : (how : ScriptEnd) (lines : List (List ℕ)) → HasLong (before ++ piece) lines →
        LongEnds buffered lines old new held held_after how →
        PieceEnds buffered before piece old new held held_after how
    piece_halted : (halt : Halt) →
        HaltsWithin buffered (before ++ piece) old new held [] halt held_after →
        PieceEnds buffered before piece old new held held_after (halted_end halt)

  -- how a script ends at the end of its input, where these bytes were left: they are the last line,
  -- if there are any, and it was answered
  pub data LastEnds (buffered : ℕ) (bytes : List ℕ) (old new : InterpreterView D)
      (held held_after : Option (List ℕ)) : ScriptEnd → Type 0 where
    all_answered : (replies : List LineReply) → AreShort bytes →
        WasRun (lines_of bytes) old new None replies →
        held_after ≡ with_back held (output_of replies) →
        LastEnds buffered bytes old new held held_after script_ends.Done
    last_halted : (halt : Halt) → AreShort bytes →
        HaltsAt buffered (lines_of bytes) old new held [] halt held_after →
        LastEnds buffered bytes old new held held_after (halted_end halt)
