-- Areas: the bytes of a disk that holds an image and the records after it. The format is this
-- project's own. Its numbers
-- are big-endian.
use Rattle.std.specs.Prelude.{◌≡◌, ◌≢◌, ◌⊎◌, ℕ, ◌+◌, ◌^◌, ◌<◌, ◌≤◌, List, [], ◌∷◌, ◌++◌, length, take, drop, get_or, Option, Some, None, nat_lt, ◌==◌, if◌then◌else◌}
use Rattle.std.specs.Int.{w32, w64, to_be_bytes, from_be_bytes}
use Rattle.bl_syntax.specs.declared.limits.TheConstants.{MOST_AREA_BYTES}

-- the greatest length of an area with its closed gate
abbrev pub area_limit : ℕ
area_limit = MOST_AREA_BYTES

-- an open gate, a length and that many bytes
abbrev pub record_bytes : List ℕ → List ℕ
record_bytes payload = 1 ∷ to_be_bytes w32 (length payload) ++ payload

abbrev pub records : List (List ℕ) → List ℕ
records [] = []
records (payload ∷ payloads) = record_bytes payload ++ records payloads

-- what stands in front of the generation: the name and the version of the format
abbrev pub magic : List ℕ
magic = 80 ∷ 67 ∷ 70 ∷ 83 ∷ 0 ∷ 0 ∷ 1 ∷ []

-- what follows the gate of an area, up to the end of its image
abbrev pub base_bytes : ℕ → List ℕ → List ℕ
base_bytes generation image = magic ++ to_be_bytes w64 generation ++ to_be_bytes w64 (length image) ++ image

-- an open area, without the closed gate at its end
abbrev pub area_bytes : ℕ → List ℕ → List (List ℕ) → List ℕ
area_bytes generation image payloads = 1 ∷ base_bytes generation image ++ records payloads

-- bytes that do not begin with an open gate
abbrev pub IsShut : List ℕ → Type 0
IsShut bytes = get_or bytes 0 0 ≢ 1

-- these bytes begin with those
abbrev pub Begins : List ℕ → List ℕ → Type 0
Begins front bytes = take (length front) bytes ≡ front

-- Bytes stand for a body: they begin with it, and what follows is empty or does not begin with an
-- open gate.
pub record StandsForBody (body bytes : List ℕ) : Type 0 where
  pub front : Begins body bytes
  pub shut : get_or bytes (length body) 0 ≢ 1

-- The same, and a closed gate is there.
pub record Closed (body bytes : List ℕ) : Type 0 where
  pub stands : StandsForBody body bytes
  pub gate : length body < length bytes

-- a number that an area may have as its generation
pub record IsGeneration (generation : ℕ) : Type 0 where
  pub low : 1 ≤ generation
  pub high : generation < 2 ^ 48

-- a body that leaves room for its closed gate
abbrev pub Fits : List ℕ → Type 0
Fits body = length body < area_limit

-- Bytes are an area of this generation, image and records.
pub record IsArea (bytes : List ℕ) (generation : ℕ) (image : List ℕ) (payloads : List (List ℕ)) : Type 0 where
  pub generated : IsGeneration generation
  pub fits : length (area_bytes generation image payloads) < area_limit
  pub stands : StandsForBody (area_bytes generation image payloads) bytes

-- Bytes are an area.
abbrev pub IsSomeArea : List ℕ → Type 0
IsSomeArea bytes =
    (generation : ℕ) × (image : List ℕ) × (payloads : List (List ℕ)) ×
    IsArea bytes generation image payloads

-- Bytes are open, and no header and image begin them that leave room for a closed gate.
pub record HasNoBase (bytes : List ℕ) : Type 0 where
  pub is_open : get_or bytes 0 0 ≡ 1
  pub none : (generation : ℕ) (image : List ℕ) → IsGeneration generation →
      length (area_bytes generation image []) < area_limit →
      Begins (area_bytes generation image []) bytes → ⊥

-- Bytes begin with an area of this many records, then an open gate stands, and no record begins
-- there that is whole and
-- leaves room for a closed gate.
pub record BreaksAfter (count : ℕ) (bytes : List ℕ) : Type 0 where
  pub generation : ℕ
  pub image : List ℕ
  pub payloads : List (List ℕ)
  pub counted : length payloads ≡ count
  pub generated : IsGeneration generation
  pub fits : length (area_bytes generation image payloads) < area_limit
  pub front : Begins (area_bytes generation image payloads) bytes
  pub is_open : get_or bytes (length (area_bytes generation image payloads)) 0 ≡ 1
  pub none : (payload : List ℕ) →
      length (area_bytes generation image payloads ++ record_bytes payload) < area_limit →
      Begins (area_bytes generation image payloads ++ record_bytes payload) bytes → ⊥

-- Bytes begin with an area of these records, and no record follows: it ends there, or an open gate
-- stands before none that
-- is whole and leaves room for a closed gate.
pub record IsFront (bytes : List ℕ) (generation : ℕ) (image : List ℕ) (payloads : List (List ℕ)) : Type 0 where
  pub generated : IsGeneration generation
  pub fits : length (area_bytes generation image payloads) < area_limit
  pub front : Begins (area_bytes generation image payloads) bytes
  pub last : get_or bytes (length (area_bytes generation image payloads)) 0 ≡ 1 →
      (payload : List ℕ) →
      length (area_bytes generation image payloads ++ record_bytes payload) < area_limit →
      Begins (area_bytes generation image payloads ++ record_bytes payload) bytes → ⊥

-- Bytes are open and no area: this is the number of the first record that is cut or past the limit,
-- 0 for header and
-- image.
abbrev pub IsBroken : ℕ → List ℕ → Type 0
IsBroken number bytes = ((number ≡ 0) × HasNoBase bytes) ⊎
    ((count : ℕ) × (number ≡ count + 1) × BreaksAfter count bytes)

-- The generation of the area that bytes begin, whole or not: none if they are not open, 0 if they
-- end before it.
abbrev pub generation_of : List ℕ → Option ℕ
generation_of bytes =
    if get_or bytes 0 0 == 1 then (if nat_lt (length bytes) 16 then Some 0 else Some (from_be_bytes w64 (take 8 (drop 8 bytes)))) else None
