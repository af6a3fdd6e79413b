-- Numbers that may be cited, and those that a grant names.
use Rattle.std.proofs.Common.{ℕ, ◌<◌, List, [], ◌∷◌}
use Rattle.bl_syntax.specs.Citable.{DoRise, AreCitable, AreNamed}

-- what rises after a number rises by itself
DoRise-rest : (number : ℕ) (numbers : List ℕ) → DoRise (number ∷ numbers) → DoRise numbers
DoRise-rest number [] rise = tt
DoRise-rest number (first ∷ others) rise = rise.1

-- what a grant names may be cited
pub AreCitable-named : (numbers : List ℕ) → AreNamed numbers → AreCitable numbers
AreCitable-named numbers named = record { some = named.some; few = named.few; rising = DoRise-rest 0 numbers named.rising }

-- what may be cited may be named if its first number is one of a statement
pub AreNamed-citable : (first : ℕ) (others : List ℕ) → AreCitable (first ∷ others) → 0 < first → AreNamed (first ∷ others)
AreNamed-citable first others citable above = record { some = citable.some; few = citable.few; rising = (above, citable.rising) }
