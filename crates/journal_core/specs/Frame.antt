-- A record's frame: what is written after its gate. The format is this project's own. Its numbers
-- are big-endian.
use Rattle.std.specs.Prelude.{ℕ, ◌-◌, List, [], ◌∷◌, ◌++◌, length, take, drop}
use Rattle.std.specs.Int.{w32, to_be_bytes}

-- the length, the payload and the closed gate of the next record
abbrev pub frame_bytes : List ℕ → List ℕ
frame_bytes payload = to_be_bytes w32 (length payload) ++ payload ++ 0 ∷ []

-- the payload of a frame
abbrev pub payload_of : List ℕ → List ℕ
payload_of bytes = take (length bytes - 5) (drop 4 bytes)
