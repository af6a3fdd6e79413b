-- Grants that rest on withdrawn statements (this project's own).
use Rattle.std.specs.Prelude.{◌≡◌, ℕ, List, [], ◌∷◌, ◌++◌, map, Bool, true, false, Option, find}
use Rattle.std.specs.List.{AllByRecursion}
use Rattle.bl_syntax.specs.Grant.{GrantView}
use Rattle.policy_statement.specs.Withdrawal.{is_withdrawn}
use Rattle.issue_standings.specs.Bearing.{BearingView}
use Rattle.issue_standings.specs.GrantStanding.{gone_by, standing_of}
use Rattle.access_history.specs.declared.event.Issue.{Issue}
use Rattle.access_history.specs.Base.{BaseView}

-- what an issue rests on
abbrev pub bearing : Issue → BearingView
bearing issue = record { grant = issue.grant; cited = issue.cited }

abbrev pub bearings : List Issue → List BearingView
bearings issues = map bearing issues

-- if there are issues with the grant and each of them cites a withdrawn number, the first withdrawn
-- number that the last of them cites
abbrev pub gone_by_issues : BaseView → GrantView → Option ℕ
gone_by_issues state g = gone_by (standing_of (is_withdrawn state.statements) g (bearings state.issues))

-- the first of these numbers that was withdrawn
abbrev pub gone_by_names : BaseView → List ℕ → Option ℕ
gone_by_names state numbers = find (is_withdrawn state.statements) numbers

-- the number by which the grant is gone that names these statements; one that names none is gone by
-- its issues
abbrev pub gone_naming : BaseView → GrantView → List ℕ → Option ℕ
gone_naming state g [] = gone_by_issues state g
gone_naming state g (number ∷ numbers) = gone_by_names state (number ∷ numbers)

-- the withdrawn number by which a grant is gone
abbrev pub gone : BaseView → GrantView → Option ℕ
gone state g = gone_naming state g g.cited

-- the number is the first of these whose statement was withdrawn
pub record IsFirstWithdrawn (withdrawn : ℕ → Bool) (numbers : List ℕ) (number : ℕ) : Type 0 where
  pub earlier : List ℕ
  pub later : List ℕ
  pub parts : numbers ≡ earlier ++ number ∷ later
  pub stand : AllByRecursion (λ (n : ℕ). withdrawn n ≡ false) earlier
  pub out : withdrawn number ≡ true
