-- What rests on a statement: the issues that cite it, and how their procaps stand (this project's
-- own).
use Rattle.std.specs.Prelude.{ℕ, ◌+◌, ◌==◌, List, [], ◌∷◌, ◌++◌, Bool, if◌then◌else◌}
use Rattle.std.specs.List.{list_any}
use Rattle.access_history.specs.declared.event.Issue.{Issue}
use Rattle.access_history.specs.Base.{BaseView}
use Rattle.access_history.specs.Gone.{gone}
use Rattle.history_table.specs.declared.resting.Rest.{Rest}

-- the issue cites the statement of that number
abbrev pub does_cite : ℕ → Issue → Bool
does_cite statement issue = list_any (λ (cited : ℕ). cited == statement) issue.cited

-- an issue with its number, and the withdrawn statement by which its procap is denied, if it is
abbrev pub rest_of : BaseView → ℕ → Issue → Rest
rest_of state number issue = record { issue = number; gone = gone state issue.grant }

-- what an issue of that number adds: nothing, if it does not cite the statement
abbrev pub rests_added : BaseView → ℕ → ℕ → Issue → List Rest
rests_added state statement number issue = if does_cite statement issue then rest_of state number issue ∷ [] else []

-- those of the issues that cite the statement, in order, if the first of them has that number
abbrev pub rests_from : BaseView → ℕ → ℕ → List Issue → List Rest
rests_from state statement number [] = []
rests_from state statement number (issue ∷ issues) = rests_added state statement number issue ++ rests_from state statement (number + 1) issues

-- all issues of a state that cite the statement, in order
abbrev pub resting_on : BaseView → ℕ → List Rest
resting_on state statement = rests_from state statement 1 state.issues
