-- The papers of a history: its statements, before which event each was withdrawn, the grants that
-- were issued, and how many statements and issues there were before each event (this project's
-- own).
use Rattle.std.specs.Prelude.{◌≡◌, List, [], ◌∷◌, false, map, length}
use Rattle.std.specs.Borrow.{Bor}
use Rattle.std.specs.List.{AllByRecursion}
use Rattle.bl_syntax.specs.Grant.{GrantView}
use Rattle.access_history.specs.declared.event.Issue.{Issue}
use Rattle.journal_records.specs.declared.event.Event.{Event}
use Rattle.policy_statement.specs.Registry.{sayings}
use Rattle.access_history.specs.Base.{BaseView}
use Rattle.access_history.specs.Replay.{next_state, replay}
use Rattle.pcfs_audit.specs.declared.papers.Before.{Before}
use Rattle.pcfs_audit.specs.declared.papers.Papers.{Papers}
use Rattle.pcfs_audit.specs.Ends.{AreEnds, IsEndWithin, NeverEnds}

-- what these references point to, in order
abbrev pub shown : {A : Type 0} → List (Bor A) → List A
shown references = map (λ r. r.now) references

-- the grants of these issues, in order
abbrev pub grants_in : List Issue → List GrantView
grants_in issues = map (λ (i : Issue). i.grant) issues

-- how many statements and issues a state has
abbrev pub counts_in : BaseView → Before
counts_in state = record { statements = length state.statements; issues = length state.issues }

-- how many there are before each of the events, the first of which comes over that state
abbrev pub counts_before : BaseView → List Event → List Before
counts_before state [] = []
counts_before state (event ∷ events) = counts_in state ∷ counts_before (next_state state event) events

-- they are the papers of the base and the events
pub record ArePapers (base : BaseView) (events : List Event) (papers : Papers) : Type 0 where
  pub statements_are : shown papers.statements.items ≡ sayings (replay base events).statements
  pub grants_are : shown papers.grants.items ≡ grants_in (replay base events).issues
  pub before_are : papers.before.items ≡ counts_before base events
  pub ends_counted : length papers.ends.items ≡ length (replay base events).statements
  pub ends_within : AllByRecursion (IsEndWithin (length events)) papers.ends.items
  pub ends_are : AreEnds base events papers.ends.items
  pub none_ended : papers.has_ended ≡ false → AllByRecursion NeverEnds papers.ends.items
