-- What is found at each of many places (this project's own).
use Rattle.std.specs.Prelude.{◌≡◌, ℕ, List, length, Some}
use Rattle.std.specs.List.{slice_get}

-- these were found at so many places, in order
pub record AreFound {A : Type 0} (Finds : ℕ → A → Type 0) (count : ℕ) (all : List A) : Type 0 where
  pub counted : length all ≡ count
  pub each : (place : ℕ) (found : A) → slice_get all place ≡ Some found → Finds place found
