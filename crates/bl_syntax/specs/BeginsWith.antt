-- What stands in a list now begins with what stood there before (this project's own).
use Rattle.std.specs.Prelude.{◌≡◌, List, ◌++◌}

-- the first list begins with the second
pub record BeginsWith {A : Type 0} (whole front : List A) : Type 0 where
  pub rest : List A
  pub parts : whole ≡ front ++ rest
