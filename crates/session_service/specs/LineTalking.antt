-- A session as a talk: its lines, each answered by one reply (this project's own).
use Rattle.std.proofs.Common.{◌≡◌, ◌∙◌, ◌≤◌, ℕ, Bool, true, false, List, [], ◌∷◌, ◌++◌, length, Option, refl, ap, arith, append_assoc, length-append}
use Rattle.std.specs.Prelude.{ℤ}
use Rattle.bl_syntax.specs.declared.limits.TheConstants.{LONGEST_LINE}
use Rattle.line_text.specs.Lines.{lines_of}
use Rattle.line_framer.specs.Framing.{FramerState, ended, IsFirst, IsLine}
use Rattle.line_framer.specs.Feeding.{AreShort}
use Rattle.line_framer.specs.Scanning.{HasLong}
use Rattle.line_wire.specs.declared.reply.LineReply.{LineReply}
use Rattle.line_wire.specs.declared.reply.LineReply.TheVariants.{TooLong}
use Rattle.line_wire.specs.ReplyText.{reply_text}
use Rattle.tree_lock.specs.Seen.{PassView}
use Rattle.pcfs_store.specs.Entries.{StoreEntry}
use Rattle.session_history.specs.SessionState.{SessionState}
use Rattle.session_loop.specs.Cutting.{Cutting, CuttingLaws}
use Rattle.session_loop.specs.Talking.{Talking, TalkingLaws}
use Rattle.session_loop.specs.declared.talk_end.TalkEnd.{TalkEnd}
use Rattle.session_loop.specs.declared.talk_end.TalkEnd.TheVariants as talks
use Rattle.shared_store.specs.declared.entry.LockEntry.{LockEntry}
use Rattle.session_service.specs.declared.session_end.SessionEnd.{SessionEnd}
use Rattle.session_service.specs.declared.session_end.SessionEnd.TheVariants as session_ends
use Rattle.session_service.specs.Said.{session_of, HasSaid}
use Rattle.session_service.specs.SaidLaws.{HasSaid-none, HasSaid-then}

-- ---- how bytes are cut

-- the bytes begin with this line, which is not too long, and its end, and these stand after it
pub record IsNextLine (left line rest : List ℕ) : Type 0 where
  pub first : IsFirst left line rest
  pub few : length line ≤ LONGEST_LINE

-- nothing is agreed on; what is left at the end is a line, unless it is empty
abbrev pub line_cutting : Cutting
line_cutting = record {
  Item = List ℕ;
  Mark = Unit {0};
  first = tt;
  IsNext = λ mark left line after rest. IsNextLine left line rest;
  IsOpen = λ mark left. IsLine left;
  IsBad = λ mark left. HasLong left [];
  IsLast = λ mark left lines. lines ≡ lines_of left;
  IsBadEnd = λ mark left. ⊥;
  most = LONGEST_LINE;
}

pub line_cutting_laws : CuttingLaws line_cutting
line_cutting_laws = record {
  begins = record { one = refl; few = omega arith };
  few = λ mark left is. is.few;
  shrinks = λ mark left line after rest next. omega (arith, ap length next.first.parts, length-append line (10 ∷ rest));
  stays = λ mark left line after rest more next. record {
    first = record { parts = ap (λ (b : List ℕ). b ++ more) next.first.parts ∙ append_assoc line (10 ∷ rest) more; one = next.first.one };
    few = next.few;
  };
}

-- ---- what is said

-- a reply as a line, with its end
abbrev pub reply_line : List ℕ → LineReply → List ℕ
reply_line line reply = reply_text reply ++ 10 ∷ []

module _ {D : Type 0} (faults : D → ℕ) (gives : List StoreEntry → ℤ → Type 0) where
  -- lines were answered, each by one reply
  pub record AreSaid (start : SessionState) (old new : PassView (LockEntry D)) (lines : List (List ℕ)) (answers : List LineReply)
      (end : SessionState) : Type 0 where
    pub said : HasSaid faults gives start old new lines answers end
    pub each : length answers ≡ length lines

  abbrev pub line_talking : Talking (PassView (LockEntry D))
  line_talking = record {
    cutting = line_cutting;
    State = SessionState;
    Reply = LineReply;
    Said = AreSaid;
    text = reply_line;
    bad_text = reply_text TooLong ++ 10 ∷ [];
  }

  pub line_laws : TalkingLaws line_talking
  line_laws = record {
    cutting = line_cutting_laws;
    none = λ state at. record { said = HasSaid-none faults gives state at; each = refl };
    further = λ start mid end old between new lines others answers more one other. record {
      said = HasSaid-then faults gives start mid end old between new lines others answers more one.said other.said;
      each = omega (arith, one.each, other.each, length-append lines others, length-append answers more);
    };
    each = λ start end old new lines answers said. said.each;
  }

-- ---- where a session is

-- a framer holds what is left: all of it, of which no line is too long; or the lines before one
-- that is
pub data IsHeld (framer : FramerState) (is_long : Bool) (left : List ℕ) : Type 0 where
  short : is_long ≡ false → AreShort left → framer ≡ record { left = left; is_long = false } →
      IsHeld framer is_long left
  long : (lines : List (List ℕ)) → is_long ≡ true → HasLong left lines →
      framer ≡ record { left = ended lines; is_long = true } → IsHeld framer is_long left

-- a session is in this state, and these bytes are left
pub record StandsAt (nonce : List ℕ) (caller : Option (List ℕ)) (framer : FramerState) (is_long : Bool) (state : SessionState)
    (mark : Unit {0}) (left : List ℕ) : Type 0 where
  pub state_is : session_of nonce caller ≡ state
  pub held : IsHeld framer is_long left

-- how a session ends whose talk ends so
abbrev pub session_end : TalkEnd → SessionEnd
session_end talks.Done = session_ends.Done
session_end talks.Bad = session_ends.LineTooLong
session_end talks.ReadFault = session_ends.ReadFault
session_end talks.WriteFault = session_ends.WriteFault
session_end talks.NoMemory = session_ends.NoMemory
session_end talks.InputTooLong = session_ends.InputTooLong
