-- A connection as a talk: its messages, each answered by one reply (this project's own; the sizes
-- are those of 9P2000).
use Rattle.std.proofs.Common.{◌≡◌, ◌≤◌, ℕ, List, [], length, arith}
use Rattle.std.specs.Prelude.{ℤ}
use Rattle.nine_messages.specs.declared.framing.TheConstants.{MOST_SIZE}
use Rattle.tree_lock.specs.Seen.{PassView}
use Rattle.pcfs_store.specs.Entries.{StoreEntry}
use Rattle.shared_store.specs.declared.entry.LockEntry.{LockEntry}
use Rattle.session_loop.specs.Cutting.{Cutting, CuttingLaws}
use Rattle.session_loop.specs.Talking.{Talking, TalkingLaws}
use Rattle.session_loop.specs.declared.talk_end.TalkEnd.{TalkEnd}
use Rattle.session_loop.specs.declared.talk_end.TalkEnd.TheVariants as talks
use Rattle.nine_messages.specs.Requests.{MessageView}
use Rattle.nine_messages.specs.Replies.{ReplyView}
use Rattle.nine_messages.specs.Cutting.{IsNext, IsOpen, IsBad, without_size, within_message, agreed_after}
use Rattle.nine_messages.proofs.CuttingLemmas.{next_stays, next_shrinks}
use Rattle.nine_fids.specs.declared.connection.Connection.{Connection}
use Rattle.nine_front.specs.declared.nine_end.NineEnd.{NineEnd}
use Rattle.nine_front.specs.declared.nine_end.NineEnd.TheVariants as ends
use Rattle.nine_front.specs.Framing.{FramerState}
use Rattle.nine_front.specs.Said.{HasSaid}
use Rattle.nine_front.specs.SaidLaws.{HasSaid-none, HasSaid-then}
use Rattle.nine_front.specs.Taken.{reply_bytes}

-- ---- how bytes are cut

-- the bytes begin with this message, after which a message may be so large, and these stand after
-- it
pub record IsNextMessage (agreed : ℕ) (left : List ℕ) (m : MessageView) (after : ℕ) (rest : List ℕ) : Type 0 where
  pub next : IsNext agreed left m rest
  pub agrees : after ≡ agreed_after agreed m.request

-- the bytes are less than a message, which may have at most 65,536
pub record IsLessThanMessage (agreed : ℕ) (left : List ℕ) : Type 0 where
  pub few : agreed ≤ MOST_SIZE
  pub is_open : IsOpen agreed left

-- no bytes are left at the end, and so no message
pub record IsNoneLeft (agreed : ℕ) (left : List ℕ) (messages : List MessageView) : Type 0 where
  pub left_is : left ≡ []
  pub messages_are : messages ≡ []

abbrev pub nine_cutting : Cutting
nine_cutting = record {
  Item = MessageView;
  Mark = ℕ;
  first = MOST_SIZE;
  IsNext = IsNextMessage;
  IsOpen = IsLessThanMessage;
  IsBad = IsBad;
  IsLast = IsNoneLeft;
  IsBadEnd = λ agreed left. 1 ≤ length left;
  most = MOST_SIZE;
}

open_few : (agreed : ℕ) (left : List ℕ) → agreed ≤ MOST_SIZE → IsOpen agreed left →
    length left ≤ MOST_SIZE
open_few agreed left few (without_size short) = omega (arith, short)
open_few agreed left few (within_message there least most short) = omega (arith, most, short)

pub nine_cutting_laws : CuttingLaws nine_cutting
nine_cutting_laws = record {
  begins = record { few = omega arith; is_open = without_size (omega arith) };
  few = λ agreed left less. open_few agreed left less.few less.is_open;
  shrinks = λ agreed left m after rest next. next_shrinks agreed left rest m next.next;
  stays = λ agreed left m after rest more next. record { next = next_stays agreed left more rest m next.next; agrees = next.agrees };
}

-- ---- what is said

module _ {D : Type 0} (faults : D → ℕ) (gives : List StoreEntry → ℤ → Type 0) where
  -- nothing is written for what is no message
  abbrev pub nine_talking : Talking (PassView (LockEntry D))
  nine_talking = record {
    cutting = nine_cutting;
    State = Connection;
    Reply = ReplyView;
    Said = HasSaid faults gives;
    text = reply_bytes;
    bad_text = [];
  }

  pub nine_laws : TalkingLaws nine_talking
  nine_laws = record {
    cutting = nine_cutting_laws;
    none = HasSaid-none faults gives;
    further = HasSaid-then faults gives;
    each = λ start end old new messages replies said. said.each;
  }

-- a connection and a framer are in this state, in which a message may be so large, and these bytes
-- are left
pub record StandsAt (connection : Connection) (framer : FramerState) (state : Connection) (agreed : ℕ) (left : List ℕ) : Type 0 where
  pub connection_is : connection ≡ state
  pub framer_is : framer ≡ record { left = left; agreed = agreed }

-- how a connection ends whose talk ends so
abbrev pub nine_end : TalkEnd → NineEnd
nine_end talks.Done = ends.Done
nine_end talks.Bad = ends.BadMessage
nine_end talks.ReadFault = ends.ReadFault
nine_end talks.WriteFault = ends.WriteFault
nine_end talks.NoMemory = ends.NoMemory
nine_end talks.InputTooLong = ends.InputTooLong
