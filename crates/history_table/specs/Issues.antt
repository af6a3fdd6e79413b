-- Which issue a grant rests on, and which statements (this project's own).
use Rattle.std.specs.Prelude.{ℕ, zero, suc, ◌+◌, List, [], ◌∷◌, Bool, ◌&&◌, if◌then◌else◌, Option, Some, None, find, is_none, option_and_then}
use Rattle.std.specs.List.{slice_get}
use Rattle.bl_syntax.specs.Equality.{grant_eq}
use Rattle.bl_syntax.specs.Grant.{GrantView}
use Rattle.policy_statement.specs.Registered.{RegisteredView}
use Rattle.policy_statement.specs.Withdrawal.{is_withdrawn}
use Rattle.access_history.specs.declared.event.Issue.{Issue}
use Rattle.access_history.specs.Base.{BaseView}

-- the issue stands: it cites no statement that was withdrawn
abbrev pub does_stand : List RegisteredView → Issue → Bool
does_stand entries issue = is_none (find (is_withdrawn entries) issue.cited)

-- it has the grant, and stands
abbrev pub is_ground : List RegisteredView → GrantView → Issue → Bool
is_ground entries g issue = grant_eq issue.grant g && does_stand entries issue

-- the number of the last of the issues that has the grant and stands, if the first of them has that
-- number; or what was found before
abbrev pub last_ground : List RegisteredView → GrantView → ℕ → Option ℕ → List Issue → Option ℕ
last_ground entries g number found [] = found
last_ground entries g number found (issue ∷ issues) = last_ground entries g (number + 1) (if is_ground entries g issue then Some number else found) issues

-- the number of the last issue of the grant that stands in a state; none if there is none
abbrev pub issue_of : BaseView → GrantView → Option ℕ
issue_of state g = last_ground state.statements g 1 None state.issues

-- the issue of a number; none if there is no such issue
abbrev pub issue_at : List Issue → ℕ → Option Issue
issue_at issues zero = None
issue_at issues (suc place) = slice_get issues place

-- the numbers that an issue cites, if there is one
abbrev pub cited_of : Option Issue → List ℕ
cited_of None = []
cited_of (Some issue) = issue.cited

-- the numbers that the issue of a number cites; none if there is no such issue
abbrev pub cited_by : List Issue → Option ℕ → List ℕ
cited_by issues number = cited_of (option_and_then (issue_at issues) number)

-- the numbers of the statements on which a procap rests: those that its grant names; of a grant
-- that names none, those that the issue of that number cites
abbrev pub rests_on : List Issue → Option ℕ → List ℕ → List ℕ
rests_on issues number [] = cited_by issues number
rests_on issues number (named ∷ others) = named ∷ others
