-- Lists in which each thing stands once, and maps from things to their places (this project's own).
use Rattle.std.specs.Prelude.{◌≡◌, ℕ, List, Contains, Some, MatchOption}
use Rattle.std.specs.List.{slice_get}
use Rattle.std.specs.Map.{lookup}
use Rattle.std.specs.BTreeMap.{is_at}
use Rattle.std.specs.declared.cmp.Ordering.{Ordering}
use Rattle.std.specs.Ordering.{nat_cmp, ordering_then}

-- the thing stands at this place, from 0, and at no other
pub record IsPlaceOf {X : Type 0} (things : List X) (x : X) (place : ℕ) : Type 0 where
  pub here : slice_get things place ≡ Some x
  pub only : (other : ℕ) → slice_get things other ≡ Some x → other ≡ place

-- the map has the places of these things, by this order, and of no others
abbrev pub ArePlacesOf : {X : Type 0} → (X → X → Ordering) → List (X × ℕ) → List X → Type 0
ArePlacesOf {X} cmp entries things = (x : X) →
    MatchOption (lookup (is_at (cmp x)) entries) (Contains things x → ⊥) (IsPlaceOf things x)

-- the order of pairs of numbers
abbrev pub pair_cmp : ℕ × ℕ → ℕ × ℕ → Ordering
pair_cmp x y = ordering_then (nat_cmp x.0 y.0) (nat_cmp x.1 y.1)
