-- The state after an event, and after a list of events (this project's own).
use Rattle.std.specs.Prelude.{◌+◌, ℤ, List, [], ◌∷◌, ◌++◌, false, negsuc}
use Rattle.policy_statement.specs.Registered.{RegisteredView}
use Rattle.policy_statement.specs.Withdrawal.{marked}
use Rattle.file_world.specs.declared.reply.OpReply.{OpReply}
use Rattle.file_world.specs.Outcome.{Outcome, refused, replied}
use Rattle.file_world.specs.World.{World, fresh_world}
use Rattle.file_world.specs.Effect.{effect}
use Rattle.access_history.specs.declared.event.Issue.{Issue}
use Rattle.bl_syntax.specs.declared.limits.TheConstants.{FIRST_MOMENT}
use Rattle.journal_records.specs.declared.event.Event.{Event}
use Rattle.journal_records.specs.declared.event.Event.TheVariants.{Registered, Withdrawn, Issued, Acted}
use Rattle.access_history.specs.declared.event.Addition.{Addition}
use Rattle.access_history.specs.declared.event.Addition.TheVariants as additions
use Rattle.access_history.specs.Base.{BaseView}

-- a store before its first event: the root, which `admin` owns, and the first moment of the range
abbrev pub fresh : BaseView
fresh = record { world = fresh_world; statements = []; issues = []; moment = FIRST_MOMENT; count = 0 }

-- ---- what an event changes in each part of the state

-- the world after what became of an operation: the old one if it was refused
abbrev pub world_left : World → Outcome OpReply World → World
world_left world (refused why) = world
world_left world (replied reply after) = after

-- the world after an event
abbrev pub world_next : World → Event → World
world_next world (Acted pass caller op procaps moment) = world_left world (effect caller op world)
world_next world _ = world

-- what the state keeps of an event beside the event
abbrev pub addition_of : Event → Addition
addition_of (Registered pass statement signature) = additions.Statement statement signature
addition_of (Withdrawn pass number signature) = additions.Withdrawal number
addition_of (Issued pass cited proof grant) = additions.Issue (record { cited = cited; proof = proof; grant = grant })
addition_of (Acted pass caller op procaps moment) = additions.Operation

-- the statements with what an event adds to them: one more, or one that is withdrawn now
abbrev pub statements_with : List RegisteredView → Addition → List RegisteredView
statements_with statements (additions.Statement statement signature) = statements
    ++ record { statement = statement; signature = signature; withdrawn = false } ∷ []
statements_with statements (additions.Withdrawal number) = marked statements number
statements_with statements _ = statements

-- the issues with what an event adds to them
abbrev pub issues_with : List Issue → Addition → List Issue
issues_with issues (additions.Issue issue) = issues ++ issue ∷ []
issues_with issues _ = issues

-- the greatest moment after an event: an operation's moment
abbrev pub moment_next : ℤ → Event → ℤ
moment_next last (Acted pass caller op procaps moment) = moment
moment_next last _ = last

-- ---- states

-- the state after an event. The number of a statement or an issue is its place, from 1
abbrev pub next_state : BaseView → Event → BaseView
next_state state event = record {
  world = world_next state.world event;
  statements = statements_with state.statements (addition_of event);
  issues = issues_with state.issues (addition_of event);
  moment = moment_next state.moment event;
  count = state.count + 1;
}

-- the state after the events, from the first to the last
abbrev pub replay : BaseView → List Event → BaseView
replay state [] = state
replay state (event ∷ events) = replay (next_state state event) events
