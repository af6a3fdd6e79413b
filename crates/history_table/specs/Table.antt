-- The table of a history: what it has of each event beside the event (this project's own).
use Rattle.std.specs.Prelude.{ℕ, ◌+◌, List, [], ◌∷◌, Option, Some, None}
use Rattle.std.specs.Option.{option_map}
use Rattle.bl_syntax.specs.Statement.{StatementView}
use Rattle.bl_syntax.specs.declared.terms.NodeId.{NodeId}
use Rattle.policy_statement.specs.Registered.{RegisteredView}
use Rattle.policy_statement.specs.Registry.{statement_of_number}
use Rattle.procap.specs.declared.procap.Procap.{Procap}
use Rattle.file_world.specs.declared.operation.Op.{Op}
use Rattle.file_world.specs.declared.operation.Op.TheVariants.{Create, Mkdir}
use Rattle.file_world.specs.Needs.{Need, needs}
use Rattle.file_world.specs.World.{World, tree_of}
use Rattle.journal_records.specs.declared.event.Event.{Event}
use Rattle.journal_records.specs.declared.event.Event.TheVariants.{Registered, Withdrawn, Issued, Acted}
use Rattle.access_history.specs.Base.{BaseView}
use Rattle.access_history.specs.Replay.{moment_next}
use Rattle.history_table.specs.declared.rows.Row.{Row}
use Rattle.history_table.specs.declared.rows.Use.{Use}
use Rattle.history_table.specs.Issues.{issue_of, rests_on}
use Rattle.history_table.specs.Path.{path_of}

-- what a procap was brought for, the permission and the file with its path then; and what it rests
-- on, the issue and the numbers of the statements
abbrev pub use_of : BaseView → Need → Procap → Use
use_of state need p = record {
  permission = need.permission;
  file = need.file;
  path = path_of (tree_of state.world).rows need.file.0;
  issue = issue_of state p.grant;
  cited = rests_on state.issues (issue_of state p.grant) p.grant.cited;
}

-- what each procap was brought for, in the order of the needs
abbrev pub uses_of : BaseView → List Need → List Procap → List Use
uses_of state (need ∷ needs) (p ∷ procaps) = use_of state need p ∷ uses_of state needs procaps
uses_of state _ _ = []

-- what the procaps of an event were brought for
abbrev pub event_uses : BaseView → Event → List Use
event_uses state (Acted pass caller op procaps moment) = uses_of state (needs state.world op) procaps
event_uses state _ = []

-- who says the statement of that number
abbrev pub signer_of : List RegisteredView → ℕ → Option (List ℕ)
signer_of entries number = option_map (λ (s : StatementView). s.who) (statement_of_number entries number)

-- whose an event is: who says the statement, who is granted something, who called
abbrev pub event_who : BaseView → Event → Option (List ℕ)
event_who state (Registered pass statement signature) = Some statement.who
event_who state (Withdrawn pass number signature) = signer_of state.statements number
event_who state (Issued pass cited proof g) = Some g.goal.who
event_who state (Acted pass caller op procaps moment) = Some caller

-- the node that an operation makes
abbrev pub made_by : World → Op → Option NodeId
made_by world (Create directory name) = Some (record { 0 = world.next })
made_by world (Mkdir directory name) = Some (record { 0 = world.next })
made_by world _ = None

-- the node that an event makes, or on which it allows something
abbrev pub event_about : BaseView → Event → Option NodeId
event_about state (Issued pass cited proof g) = Some g.goal.file
event_about state (Acted pass caller op procaps moment) = made_by state.world op
event_about state _ = None

-- the row of an event over the state before it: its number, its second, which of another event than
-- an operation is the last operation's before it, whose it is, and its procaps
abbrev pub row_of : BaseView → Event → Row
row_of state event = record {
  number = state.count + 1;
  second = moment_next state.moment event;
  who = event_who state event;
  about = event_about state event;
  uses = event_uses state event;
}
