-- Laws of what the lines of a text come to as a table of modes: to one end, and to no other.
use Rattle.std.specs.Prelude.{◌≡◌, ℕ, List}
use Rattle.bl_syntax.specs.declared.terms.TimePoint.{TimePoint}
use Rattle.pcfs_modes.specs.Answers.{ComesTo}

-- lines come to one end at most
abbrev pub HasOneEnd : Type 0
HasOneEnd = (from to : TimePoint) (lines : List (List ℕ)) (status other : ℕ) (written another : List ℕ)
    → ComesTo from to lines status written → ComesTo from to lines other another → (status ≡ other)
    × (written ≡ another)

-- lines come to an end
abbrev pub HasAnEnd : Type 0
HasAnEnd = (from to : TimePoint) (lines : List (List ℕ)) → (status : ℕ) × (written : List ℕ)
    × ComesTo from to lines status written
