-- How a grant stands, by the issues that have it (this project's own).
use Rattle.std.specs.Prelude.{ℕ, List, Bool, if◌then◌else◌, Option, Some, None, find, fold}
use Rattle.bl_syntax.specs.Equality.{grant_eq}
use Rattle.bl_syntax.specs.Grant.{GrantView}
use Rattle.issue_standings.specs.declared.standing.GrantStanding.{GrantStanding}
use Rattle.issue_standings.specs.declared.standing.GrantStanding.TheVariants.{Unissued, Stands, GoneBy}
use Rattle.issue_standings.specs.Bearing.{BearingView}

-- how a grant stands after one more issue, of whose statements this is the first that was
-- withdrawn: once one of its issues stands, it stands
abbrev pub after : GrantStanding → Option ℕ → GrantStanding
after Stands withdrawn = Stands
after before None = Stands
after before (Some number) = GoneBy number

-- after one more issue, which counts only if it has the grant
abbrev pub after_issue : (ℕ → Bool) → GrantView → GrantStanding → BearingView → GrantStanding
after_issue withdrawn g before b = if grant_eq b.grant g then after before (find withdrawn b.cited) else before

-- how the grant stands by these issues, where some numbers were withdrawn
abbrev pub standing_of : (ℕ → Bool) → GrantView → List BearingView → GrantStanding
standing_of withdrawn g bearings = fold (after_issue withdrawn g) Unissued bearings

-- the number by which it is gone
abbrev pub gone_by : GrantStanding → Option ℕ
gone_by (GoneBy number) = Some number
gone_by _ = None
