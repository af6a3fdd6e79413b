-- Lines that are too long (this project's own).
use Rattle.std.specs.Prelude.{◌<◌, ℕ, List, length, Contains}
use Rattle.bl_syntax.specs.declared.limits.TheConstants.{LONGEST_LINE}

-- a line is longer than a line may be
pub record HasLongLine (lines : List (List ℕ)) : Type 0 where
  pub line : List ℕ
  pub among : Contains lines line
  pub long : LONGEST_LINE < length line
