-- The contents of a file in blocks: the blocks end to end, and a shorter one after them, begin with the bytes, and have
-- zero bytes after them.
use Rattle.std.specs.Prelude.{◌≡◌, ℕ, ◌+◌, ◌-◌, ◌/◌, ◌^◌, ◌<◌, ◌≤◌, List, ◌++◌, length, take, drop, replicate}
use Rattle.std.specs.List.{All, concat}
use Rattle.file_blocks.specs.declared.block.TheConstants.{BLOCK_BYTES}

-- what contracts see: the bytes, and how many of them there may be without taking memory
pub record ContentsView : Type 0 where
  pub bytes : List ℕ
  pub room : ℕ

-- so many zero bytes
unfoldable pub zeros : ℕ → List ℕ
zeros count = replicate count 0

-- bytes in the place of as many from an offset on
unfoldable pub over : List ℕ → ℕ → List ℕ → List ℕ
over all at bytes = take at all ++ (bytes ++ drop (at + length bytes) all)

-- how many blocks so many bytes take
abbrev pub blocks_for : ℕ → ℕ
blocks_for len = (len + (BLOCK_BYTES - 1)) / BLOCK_BYTES

-- each block has all its bytes
abbrev pub AreWhole : List (List ℕ) → Type 0
AreWhole blocks = All (λ block. length block ≡ BLOCK_BYTES) blocks

-- whole blocks end to end, and the tail after them
abbrev pub joined : List (List ℕ) → List ℕ → List ℕ
joined blocks tail = concat blocks ++ tail

-- each block has all its bytes, the tail has no more than a block, and there are not too many
pub record AreBlocks (blocks : List (List ℕ)) (tail : List ℕ) : Type 0 where
  pub whole : AreWhole blocks
  pub short : length tail ≤ BLOCK_BYTES
  pub few : length blocks ≤ 2 ^ 51

-- zero bytes, or none, were added at the end
pub record IsFilledUp (old new : List ℕ) : Type 0 where
  pub grows : length old ≤ length new
  pub bytes : new ≡ old ++ zeros (length new - length old)

abbrev pub contents_view : List ℕ → ℕ → ContentsView
contents_view all len = record { bytes = take len all; room = length all }

-- so many bytes are in the blocks, and those after them are zero
pub record AreContents (all : List ℕ) (len : ℕ) : Type 0 where
  pub within : len ≤ length all
  pub zero_after : drop len all ≡ zeros (length all - len)
  pub few : length all < 2 ^ 64
