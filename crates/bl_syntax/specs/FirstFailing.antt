-- The first item of a list that lacks a property (this project's own).
use Rattle.std.specs.Prelude.{◌≡◌, ℕ, List, ◌∷◌, ◌++◌, length}
use Rattle.std.specs.List.{AllByRecursion}

-- the item at that place, from 0, lacks the property, and each one before it has it
pub record IsFirstFailing {A : Type 0} (P : A → Type 0) (items : List A) (place : ℕ) (item : A) : Type 0 where
  pub before : List A
  pub behind : List A
  pub parts : items ≡ before ++ item ∷ behind
  pub place_is : place ≡ length before
  pub holds_before : AllByRecursion P before
  pub fails : P item → ⊥
