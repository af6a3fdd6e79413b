-- Lines that are taken from bytes that were read (this project's own).
use Rattle.std.specs.Prelude.{◌≡◌, ◌≤◌, ℕ, List, ◌∷◌, ◌++◌, Option, None, Some, length, take}
use Rattle.line_text.specs.Words.{HasNo}

-- what is taken is the line before the first end of a line, and what is left stands after that end; nothing is taken if no line has an end
abbrev pub TakesLine : List ℕ → List ℕ → Option (List ℕ) → Type 0
TakesLine old new None = HasNo 10 old × (new ≡ old)
TakesLine old new (Some line) = HasNo 10 line × (old ≡ line ++ 10 ∷ new)

-- there are so many bytes at the front, without an end of a line
pub record HasPassed (count : ℕ) (bytes : List ℕ) : Type 0 where
  pub within : count ≤ length bytes
  pub no_end : HasNo 10 (take count bytes)
