-- Lists whose items are numbered by their places, from 1 (this project's own).
use Rattle.std.specs.Prelude.{◌≡◌, ◌≤◌, ◌+◌, ℕ, List, length, Some}
use Rattle.std.specs.List.{slice_get}

-- the item of that number
pub record IsNumbered {A : Type 0} (items : List A) (number : ℕ) (item : A) : Type 0 where
  pub place : ℕ
  pub from_one : number ≡ place + 1
  pub found : slice_get items place ≡ Some item

-- there is no item of that number
abbrev pub HasNone : {A : Type 0} → List A → ℕ → Type 0
HasNone {A} items number = (item : A) → IsNumbered items number item → ⊥

-- there is an item of that number
abbrev pub HasNumber : {A : Type 0} → List A → ℕ → Type 0
HasNumber items number = (1 ≤ number) × (number ≤ length items)
