-- The digits of a number (this project's own).
use Rattle.std.specs.Prelude.{◌≡◌, ◌≤◌, ℕ, List, length, slice_index, IsTrue}
use Rattle.std.specs.List.{list_all}
use Rattle.bl_syntax.specs.Names.{is_digit}

-- 1 to 20 digits that no zero leads but a single one
pub record IsPlain (word : List ℕ) : Type 0 where
  pub some : 1 ≤ length word
  pub few : length word ≤ 20
  pub digits : IsTrue (list_all is_digit word)
  pub no_zero : slice_index word 0 ≡ 48 → length word ≡ 1
