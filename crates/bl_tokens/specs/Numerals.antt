-- Numbers in decimal digits (this project's own).
use Rattle.std.specs.Prelude.{ℕ, List, length, Bool, nat_le, nat_lt, not, ◌&&◌, ◌||◌, ◌==◌, slice_index, Option, Some, None, if◌then◌else◌}
use Rattle.std.specs.Str.Parse.{digits_value}

-- at least one digit, and no zero before others
abbrev pub is_numeral : List ℕ → Bool
is_numeral digits = nat_le 1 (length digits) && ((length digits == 1) || not (slice_index digits 0 == 48))

-- the number that the digits write without leading zeros, if it is below the limit
abbrev pub numeral_below : ℕ → List ℕ → Option ℕ
numeral_below limit digits = if is_numeral digits && nat_lt (digits_value 10 digits) limit then Some (digits_value 10 digits) else None
