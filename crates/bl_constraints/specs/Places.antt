-- Sets of places, a bit for each, in words of 64 bits. They are this project's own.
use Rattle.std.specs.Prelude.{◌≡◌, ◌/◌, ◌%◌, ◌<◌, ℕ, List, get_or}
use Rattle.std.specs.Int.{bit_at}

-- the place is in the set
abbrev pub HasPlace : List ℕ → ℕ → Type 0
HasPlace words place = bit_at (get_or words (place / 64) 0) (place % 64) ≡ 1

-- two words have a bit in common
pub record ShareBit (word other : ℕ) : Type 0 where
  pub bit : ℕ
  pub within : bit < 64
  pub here : bit_at word bit ≡ 1
  pub there : bit_at other bit ≡ 1

-- a place is in both sets
pub record Meet (words others : List ℕ) : Type 0 where
  pub place : ℕ
  pub here : HasPlace words place
  pub there : HasPlace others place
