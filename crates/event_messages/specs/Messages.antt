-- Messages that carry the events of one store to another: the one spelling of each, and its reading
-- from the left. The format is this project's own. Its numbers are big-endian.
use Rattle.std.specs.Prelude.{◌==◌, ℕ, List, [], ◌∷◌, ◌++◌, ◌<◌, ◌≤◌, ◌^◌, length, take, drop, nat_lt, if◌then◌else◌, Ok, Err}
use Rattle.std.specs.Int.{w32, w64, to_be_bytes}
use Rattle.bl_syntax.specs.declared.codec_fault.CodecFault.TheVariants.{Short, BadTag, TooLarge}
use Rattle.bl_syntax.specs.declared.limits.TheConstants.{LONGEST_MESSAGE}
use Rattle.bl_syntax.specs.Reading.{◌>>=◌, Reading, number_at}

-- an event's number, from 1 in its history, and the payload of its record
pub record Message : Type 0 where
  pub number : ℕ
  pub payload : List ℕ

-- a message that can be sent: its number fits eight bytes, and its payload has at most 1,048,576
pub record IsMessage (m : Message) : Type 0 where
  pub numbered : m.number < 2 ^ 64
  pub few : length m.payload ≤ LONGEST_MESSAGE

-- the byte 0x52, the number in eight bytes, the length of the payload in four, and the payload
unfoldable pub message_spelling : Message → List ℕ
message_spelling m = 0x52 ∷ to_be_bytes w64 m.number ++ (to_be_bytes w32 (length m.payload) ++ m.payload)

-- messages, one after another
abbrev pub messages_spelling : List Message → List ℕ
messages_spelling [] = []
messages_spelling (m ∷ messages) = message_spelling m ++ messages_spelling messages

-- how many bytes the message takes
abbrev pub message_length : Message → ℕ
message_length m = length (message_spelling m)

-- the payload of the message of that number, of so many bytes; one over the limit is TooLarge
abbrev pub payload_of : ℕ → ℕ → List ℕ → Reading Message
payload_of number len bytes =
    if nat_lt LONGEST_MESSAGE len then Err (TooLarge 0) else
    if nat_lt (length bytes) len then Err Short else
    Ok (record { number = number; payload = take len bytes }, drop len bytes)

-- the same, after its length
unfoldable pub payload_at : ℕ → List ℕ → Reading Message
payload_at number bytes = do
  len ← number_at w32 bytes
  payload_of number len.0 len.1

-- what follows the first byte
unfoldable pub fields_at : List ℕ → Reading Message
fields_at bytes = do
  number ← number_at w64 bytes
  payload_at number.0 number.1

-- The message at the front of bytes, and the bytes after it. Short says that more bytes may complete
-- one; any other fault, that none begins so. A fault has the place of the message's first byte.
unfoldable pub message_at : List ℕ → Reading Message
message_at [] = Err Short
message_at (first ∷ rest) = if first == 0x52 then fields_at rest else Err (BadTag 0)
