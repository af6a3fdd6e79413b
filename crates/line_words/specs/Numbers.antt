-- Numbers, nodes and seconds in the words of a line (this project's own).
use Rattle.std.specs.Prelude.{◌≡◌, ◌+◌, ◌≤◌, ◌<◌, ◌^◌, ℕ, ℤ, List, ◌∷◌, Ok}
use Rattle.std.specs.Fmt.{decimal}
use Rattle.bl_syntax.specs.declared.limits.TheConstants.{MOST_BYTES_AT_ONCE}
use Rattle.bl_syntax.specs.declared.terms.NodeId.{NodeId}
use Rattle.bl_syntax.specs.declared.terms.TimePoint.TheVariants.{At}
use Rattle.bl_tokens.specs.Times.{time_reading}

-- a finite time as texts have it: a whole second, a date, or a date with a time of day
abbrev pub IsSecond : List ℕ → ℤ → Type 0
IsSecond word second = time_reading word ≡ Ok (At second)

-- a number below the limit: decimal digits without leading zeros
pub record IsNumberBelow (limit : ℕ) (word : List ℕ) (number : ℕ) : Type 0 where
  pub decimal_is : word ≡ decimal number
  pub fits : number < limit

-- the number of a statement
abbrev pub IsNumber : List ℕ → ℕ → Type 0
IsNumber word number = IsNumberBelow (2 ^ 32) word number

-- an offset or a length
abbrev pub IsLongNumber : List ℕ → ℕ → Type 0
IsLongNumber word number = IsNumberBelow (2 ^ 64) word number

-- a number of bytes to be read at once
abbrev pub IsCount : List ℕ → ℕ → Type 0
IsCount word number = IsNumberBelow (MOST_BYTES_AT_ONCE + 1) word number

-- a node by its number, with a `#` before it
pub record IsFile (word : List ℕ) (node : NodeId) : Type 0 where
  pub digits : List ℕ
  pub word_is : word ≡ 35 ∷ digits
  pub number : IsLongNumber digits node.0

-- the number of an issue, from 1
pub record IsIssue (word : List ℕ) (number : ℕ) : Type 0 where
  pub number_is : IsLongNumber word number
  pub some : 1 ≤ number
