-- The messages of bytes that come in pieces (this project's own; the sizes are those of 9P2000). A
-- message has at least 7 bytes, and at most as many as the two sides have agreed on.
use Rattle.std.specs.Prelude.{◌≡◌, ◌<◌, ◌≤◌, ℕ, List, [], ◌∷◌, ◌++◌, length, take, min, nat_lt, if◌then◌else◌}
use Rattle.std.specs.Int.{w32, from_le_bytes}
use Rattle.nine_messages.specs.declared.framing.TheConstants.{MOST_SIZE, LEAST_SIZE}
use Rattle.nine_messages.specs.Requests.{RequestView, tversion, tattach, tflush, twalk, topen, tread, twrite, tclunk, tother, MessageView, IsMessage, spelling}

-- the size that the first four bytes say
unfoldable pub size_of : List ℕ → ℕ
size_of left = from_le_bytes w32 (take 4 left)

-- the bytes are those of no message
abbrev pub IsNoMessage : List ℕ → Type 0
IsNoMessage bytes = (m : MessageView) → IsMessage m → bytes ≡ spelling m → ⊥

-- the bytes begin with this message, which is not larger than was agreed, and these stand after it
pub record IsNext (agreed : ℕ) (left : List ℕ) (m : MessageView) (rest : List ℕ) : Type 0 where
  pub spelled : IsMessage m
  pub parts : left ≡ spelling m ++ rest
  pub within : length (spelling m) ≤ agreed

-- the bytes begin with no message, whatever comes after them: the size is below 7 or above what was
-- agreed, or that many bytes are there and are no message
pub data IsBad (agreed : ℕ) (left : List ℕ) : Type 0 where
  small : 4 ≤ length left → size_of left < 7 → IsBad agreed left
  large : 4 ≤ length left → agreed < size_of left → IsBad agreed left
  unfilled : 4 ≤ length left → size_of left ≤ length left → IsNoMessage (take (size_of left) left) →
      IsBad agreed left

-- the bytes are less than a message: its size is not there whole, or fewer bytes are there than it
-- says
pub data IsOpen (agreed : ℕ) (left : List ℕ) : Type 0 where
  without_size : length left < 4 → IsOpen agreed left
  within_message : 4 ≤ length left → 7 ≤ size_of left → size_of left ≤ agreed →
      length left < size_of left → IsOpen agreed left

-- what bytes begin with: a message, less than one, or none whatever comes
pub data Begins (agreed : ℕ) (left : List ℕ) : Type 0 where
  with_message : (m : MessageView) (rest : List ℕ) → IsNext agreed left m rest → Begins agreed left
  with_less : IsOpen agreed left → Begins agreed left
  with_bad : IsBad agreed left → Begins agreed left

-- how large a message may be after this one: a Tversion for at least 512 bytes agrees on it
abbrev pub agreed_after : ℕ → RequestView → ℕ
agreed_after agreed (tversion msize version) = if nat_lt msize LEAST_SIZE then agreed else min msize MOST_SIZE
agreed_after agreed (tattach fid afid uname aname) = agreed
agreed_after agreed (tflush oldtag) = agreed
agreed_after agreed (twalk fid newfid names) = agreed
agreed_after agreed (topen fid mode) = agreed
agreed_after agreed (tread fid offset count) = agreed
agreed_after agreed (twrite fid offset bytes) = agreed
agreed_after agreed (tclunk fid) = agreed
agreed_after agreed (tother kind body) = agreed

-- the messages with which a stream begins, from the size that is agreed, to that after them and
-- what is left
pub data Cuts : ℕ → List ℕ → List MessageView → ℕ → List ℕ → Type 0 where
  none : (agreed : ℕ) (left : List ℕ) → Cuts agreed left [] agreed left
  one_more : (agreed : ℕ) (left : List ℕ) (m : MessageView) (rest : List ℕ)
      (messages : List MessageView) (to : ℕ) (end : List ℕ) →
      IsNext agreed left m rest → Cuts (agreed_after agreed m.request) rest messages to end →
      Cuts agreed left (m ∷ messages) to end

-- no message comes next: less than one is there, or a bad one
pub data IsLeft (agreed : ℕ) (left : List ℕ) : Type 0 where
  less : IsOpen agreed left → IsLeft agreed left
  bad : IsBad agreed left → IsLeft agreed left

-- all messages of a stream, and what is left after them
pub record CutsAll (agreed : ℕ) (stream : List ℕ) : Type 0 where
  pub messages : List MessageView
  pub to : ℕ
  pub end : List ℕ
  pub cut : Cuts agreed stream messages to end
  pub over : IsLeft to end

-- two ways to cut a stream are one
pub record AreOneCut (messages others : List MessageView) (to last : ℕ) (end stop : List ℕ) : Type 0 where
  pub messages_are : messages ≡ others
  pub sizes_are : to ≡ last
  pub ends_are : end ≡ stop
