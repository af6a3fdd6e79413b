-- The messages of what was taken of an input, and what is written for them. If the input does not
-- tell what it has, these are some messages (this project's own).
use Rattle.std.specs.Prelude.{◌≡◌, ◌≤◌, ◌<◌, ◌*◌, ℕ, List, [], length, Option}
use Rattle.nine_messages.specs.declared.framing.TheConstants.{MOST_SIZE}
use Rattle.pcfs_ports.specs.declared.streams.TheConstants.{INPUT_LIMIT}
use Rattle.pcfs_ports.specs.Observable.{with_front, ReadsToEnd}
use Rattle.session_loop.specs.Written as talks
use Rattle.nine_messages.specs.Requests.{MessageView}
use Rattle.nine_messages.specs.Replies.{ReplyView, reply_spelling}
use Rattle.nine_messages.specs.Cutting.{Cuts, IsOpen, IsBad}

-- these messages were taken, of which the first may be of the greatest size, and then some rest, of
-- no more bytes than two such; in all no more than the limit of an input
pub record AreTaken (left left_after : Option (List ℕ)) (messages : List MessageView) : Type 0 where
  pub bytes : List ℕ
  pub rest : List ℕ
  pub agreed : ℕ
  pub taken : left ≡ with_front bytes left_after
  pub cut : Cuts MOST_SIZE bytes messages agreed rest
  pub few : length rest ≤ 2 * MOST_SIZE
  pub limit : length bytes ≤ INPUT_LIMIT

-- these messages were taken, and then less than a message, in all no more than that limit
pub record AreAllTaken (left left_after : Option (List ℕ)) (messages : List MessageView) : Type 0 where
  pub bytes : List ℕ
  pub rest : List ℕ
  pub agreed : ℕ
  pub taken : left ≡ with_front bytes left_after
  pub cut : Cuts MOST_SIZE bytes messages agreed rest
  pub is_open : IsOpen agreed rest
  pub limit : length bytes ≤ INPUT_LIMIT

-- these messages were taken, and what comes after them is no message, whatever else comes; of that
-- no more was taken than two messages of the greatest size
pub record IsCutAtBad (left left_after : Option (List ℕ)) (messages : List MessageView) : Type 0 where
  pub bytes : List ℕ
  pub rest : List ℕ
  pub agreed : ℕ
  pub taken : left ≡ with_front bytes left_after
  pub cut : Cuts MOST_SIZE bytes messages agreed rest
  pub is_bad : IsBad agreed rest
  pub few : length rest ≤ 2 * MOST_SIZE
  pub limit : length bytes ≤ INPUT_LIMIT

-- the input, which has fewer bytes than the limit, was read to its end, and these are its messages
pub record IsReadWhole (left left_after : Option (List ℕ)) (messages : List MessageView) : Type 0 where
  pub bytes : List ℕ
  pub agreed : ℕ
  pub read : ReadsToEnd left left_after bytes
  pub cut : Cuts MOST_SIZE bytes messages agreed []
  pub limit : length bytes < INPUT_LIMIT

-- such an input was read to its end, which is within the message after these
pub record IsCutOff (left left_after : Option (List ℕ)) (messages : List MessageView) : Type 0 where
  pub bytes : List ℕ
  pub rest : List ℕ
  pub agreed : ℕ
  pub read : ReadsToEnd left left_after bytes
  pub cut : Cuts MOST_SIZE bytes messages agreed rest
  pub some : 1 ≤ length rest
  pub is_open : IsOpen agreed rest
  pub limit : length bytes < INPUT_LIMIT

-- ---- what is written

-- the bytes of a reply, with the tag of its message
abbrev pub reply_bytes : MessageView → ReplyView → List ℕ
reply_bytes m reply = reply_spelling m.tag reply

-- the replies to messages
abbrev pub output_of : List MessageView → List ReplyView → List ℕ
output_of = talks.output_of reply_bytes

-- beside what it held, the output holds all replies but the last, and of the last some first part
abbrev pub HoldsButLast : Option (List ℕ) → Option (List ℕ) → List MessageView → List ReplyView →
    Type 0
HoldsButLast = talks.HoldsButLast reply_bytes
