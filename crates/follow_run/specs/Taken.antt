-- The messages of what was taken of an input. If the input does not tell what it has, these are
-- some messages (this project's own).
use Rattle.std.specs.Prelude.{◌≡◌, ◌+◌, ◌≤◌, ℕ, List, [], ◌++◌, length, Option}
use Rattle.std.specs.List.{AllByRecursion}
use Rattle.bl_syntax.specs.declared.limits.TheConstants.{LONGEST_MESSAGE}
use Rattle.pcfs_ports.specs.declared.pieces.TheConstants.{PIECE_LEN}
use Rattle.pcfs_ports.specs.Observable.{with_front, ReadsToEnd}
use Rattle.event_messages.specs.Messages.{Message, IsMessage, messages_spelling}
use Rattle.event_messages.specs.Reader.{MayGoOn, BeginsNoMessage}

-- the bytes are these messages, one after another, and then this rest
pub record AreFirst (bytes : List ℕ) (messages : List Message) (rest : List ℕ) : Type 0 where
  pub whole : AllByRecursion IsMessage messages
  pub parts : bytes ≡ messages_spelling messages ++ rest

-- a message, with 13 bytes before its payload, and a piece
abbrev pub message_and_piece : ℕ
message_and_piece = 13 + LONGEST_MESSAGE + PIECE_LEN

-- these messages were taken, and then some rest, of no more than a message and a piece
pub record AreTaken (left left_after : Option (List ℕ)) (messages : List Message) : Type 0 where
  pub bytes : List ℕ
  pub rest : List ℕ
  pub taken : left ≡ with_front bytes left_after
  pub first : AreFirst bytes messages rest
  pub few : length rest ≤ message_and_piece

-- these messages were taken, and then some rest, which more bytes may make a message
pub record AreAllTaken (left left_after : Option (List ℕ)) (messages : List Message) : Type 0 where
  pub bytes : List ℕ
  pub rest : List ℕ
  pub taken : left ≡ with_front bytes left_after
  pub first : AreFirst bytes messages rest
  pub may_go_on : MayGoOn rest

-- the input was read to its end, and it had these messages
pub record AreAll (left left_after : Option (List ℕ)) (messages : List Message) : Type 0 where
  pub whole : AllByRecursion IsMessage messages
  pub to_end : ReadsToEnd left left_after (messages_spelling messages)

-- After these messages no other one stands at its place: what was taken there begins none, whatever
-- comes; or the input was read to its end, and ends within one.
pub data HasBadFrame (left left_after : Option (List ℕ)) (messages : List Message) : Type 0 where
  no_message : (bytes rest : List ℕ) → left ≡ with_front bytes left_after →
      AreFirst bytes messages rest → BeginsNoMessage rest → length rest ≤ message_and_piece →
      HasBadFrame left left_after messages
  cut_off : (bytes rest : List ℕ) → ReadsToEnd left left_after bytes →
      AreFirst bytes messages rest → MayGoOn rest → (rest ≡ [] → ⊥) →
      HasBadFrame left left_after messages
