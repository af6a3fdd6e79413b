-- What an issue rests on (this project's own).
use Rattle.std.specs.Prelude.{◌≡◌, ◌==◌, ℕ, List, length, Bool, Some, filter}
use Rattle.std.specs.List.{list_any, slice_get}
use Rattle.bl_syntax.specs.Grant.{GrantView}

-- its grant, and the numbers of the statements that it cites
pub record BearingView : Type 0 where
  pub grant : GrantView
  pub cited : List ℕ

-- the issue in that place, from 0, has the grant
pub record IsGrantAt (bearings : List BearingView) (place : ℕ) (g : GrantView) : Type 0 where
  pub bearing : BearingView
  pub at : slice_get bearings place ≡ Some bearing
  pub grant_is : bearing.grant ≡ g

-- no issue has the grant
abbrev pub IsUnissued : List BearingView → GrantView → Type 0
IsUnissued bearings g = (place : ℕ) → IsGrantAt bearings place g → ⊥

-- the issue is plain: its grant names no statements
abbrev pub is_plain : BearingView → Bool
is_plain b = length b.grant.cited == 0

abbrev pub plain : List BearingView → List BearingView
plain bearings = filter is_plain bearings

-- it cites the number
abbrev pub cites : ℕ → BearingView → Bool
cites number b = list_any (λ (n : ℕ). n == number) b.cited
