-- The numbers of statements that may be cited together, and those that a grant names. The limits
-- are this project's own.
use Rattle.std.specs.Prelude.{◌<◌, ◌≤◌, ℕ, List, [], ◌∷◌, length}
use Rattle.bl_syntax.specs.declared.limits.TheConstants.{MOST_CITED}

-- each number is below the next
abbrev pub DoRise : List ℕ → Type 0
DoRise [] = Unit {0}
DoRise (first ∷ []) = Unit {0}
DoRise (first ∷ second ∷ others) = (first < second) × DoRise (second ∷ others)

-- 1 to 64 numbers, strictly rising
pub record AreCitable (numbers : List ℕ) : Type 0 where
  pub some : 0 < length numbers
  pub few : length numbers ≤ MOST_CITED
  pub rising : DoRise numbers

-- 1 to 64 numbers of statements, strictly rising: numbers count from 1
pub record AreNamed (numbers : List ℕ) : Type 0 where
  pub some : 0 < length numbers
  pub few : length numbers ≤ MOST_CITED
  pub rising : DoRise (0 ∷ numbers)
