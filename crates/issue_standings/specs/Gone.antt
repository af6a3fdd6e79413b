-- When a grant is gone, by its issues (this project's own).
use Rattle.std.specs.Prelude.{◌≡◌, ◌↔◌, ℕ, List, ◌∷◌, ◌++◌, Bool, Some, IsSome, find}
use Rattle.std.specs.List.{AllByRecursion}
use Rattle.bl_syntax.specs.Grant.{GrantView}
use Rattle.issue_standings.specs.Bearing.{BearingView}
use Rattle.issue_standings.specs.GrantStanding.{gone_by, standing_of}

-- if the issue has the grant, it cites a withdrawn number
abbrev pub RestsOnWithdrawn : (ℕ → Bool) → GrantView → BearingView → Type 0
RestsOnWithdrawn withdrawn g b = b.grant ≡ g → IsSome (find withdrawn b.cited)

-- the issue has another grant
abbrev pub HasOther : GrantView → BearingView → Type 0
HasOther g b = b.grant ≡ g → ⊥

-- there are issues with the grant, each of them cites a withdrawn number, and this is the first
-- withdrawn number that the last of them cites
pub record IsGoneBy (withdrawn : ℕ → Bool) (g : GrantView) (bearings : List BearingView) (number : ℕ) : Type 0 where
  pub earlier : List BearingView
  pub last : BearingView
  pub later : List BearingView
  pub parts : bearings ≡ earlier ++ last ∷ later
  pub grant_is : last.grant ≡ g
  pub none_later : AllByRecursion (HasOther g) later
  pub each_rests : AllByRecursion (RestsOnWithdrawn withdrawn g) bearings
  pub first : find withdrawn last.cited ≡ Some number

-- the standing of a grant says by which number it is gone
abbrev pub GoneMeans : Type 0
GoneMeans = (withdrawn : ℕ → Bool) (g : GrantView) (bearings : List BearingView) (number : ℕ) →
    (gone_by (standing_of withdrawn g bearings) ≡ Some number) ↔
    IsGoneBy withdrawn g bearings number
