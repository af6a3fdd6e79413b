-- The fields of journal records that stand in no term, formula or grant: the one spelling of each,
-- and its reading from the left. The format is this project's own. Its
-- numbers are big-endian. A field that the input does not hold whole is Short.
use Rattle.std.specs.Prelude.{ℕ, ℤ, List, [], ◌∷◌, ◌++◌, ◌<◌, ◌≤◌, ◌^◌, length, take, drop, nat_lt, if◌then◌else◌, Ok, Err}
use Rattle.std.specs.Int.{w32, w64, to_be_bytes, cast_signed, cast_unsigned}
use Rattle.bl_syntax.specs.declared.codec_fault.CodecFault.TheVariants.{Short, NotCanonical}
use Rattle.bl_syntax.specs.declared.terms.NodeId.{NodeId}
use Rattle.bl_syntax.specs.Reading.{◌>>=◌, Reading, map_reading, place, number_at, is_moment}

-- a number of four bytes
abbrev pub u32_at : List ℕ → Reading ℕ
u32_at bytes = number_at w32 bytes

-- a number of eight bytes
abbrev pub u64_at : List ℕ → Reading ℕ
u64_at bytes = number_at w64 bytes

-- an offset, a length, or the number of a node
unfoldable pub number_spelling : ℕ → List ℕ
number_spelling number = to_be_bytes w64 number

abbrev pub IsSpellableNumber : ℕ → Type 0
IsSpellableNumber number = number < 2 ^ 64

-- a node by its number
abbrev pub node : ℕ → NodeId
node number = record { 0 = number }

abbrev pub node_spelling : NodeId → List ℕ
node_spelling file = number_spelling file.0

abbrev pub node_at : List ℕ → Reading NodeId
node_at bytes = map_reading node (u64_at bytes)

abbrev pub IsSpellableNode : NodeId → Type 0
IsSpellableNode file = IsSpellableNumber file.0

-- a name in no grammar: one byte of length, and that many bytes
unfoldable pub free_name_at : List ℕ → Reading (List ℕ)
free_name_at [] = Err Short
free_name_at (len ∷ rest) = if nat_lt (length rest) len then Err Short else Ok (take len rest, drop len rest)

-- few enough bytes for a length of one byte
abbrev pub FitsOneByte : List ℕ → Type 0
FitsOneByte name = length name ≤ 255

-- plain bytes: four bytes of length, and that many bytes
unfoldable pub sized_bytes_spelling : List ℕ → List ℕ
sized_bytes_spelling bytes = to_be_bytes w32 (length bytes) ++ bytes

unfoldable pub sized_bytes_at : List ℕ → Reading (List ℕ)
sized_bytes_at bytes = do
  len ← u32_at bytes
  if nat_lt (length len.1) len.0 then Err Short else Ok (take len.0 len.1, drop len.0 len.1)

-- few enough bytes for a length of four bytes
abbrev pub FitsFourBytes : List ℕ → Type 0
FitsFourBytes bytes = length bytes < 2 ^ 32

-- a moment: a whole second in two's complement
unfoldable pub moment_spelling : ℤ → List ℕ
moment_spelling moment = to_be_bytes w64 (cast_unsigned w64 moment)

-- one outside the range has its fault at its first byte
unfoldable pub moment_field_at : ℕ → List ℕ → Reading ℤ
moment_field_at input bytes = do
  number ← u64_at bytes
  if is_moment (cast_signed w64 number.0) then Ok (cast_signed w64 number.0, number.1) else Err (NotCanonical (place input bytes))
