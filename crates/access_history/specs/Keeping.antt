-- What has to hold of an event, and of what the state keeps of it, when it is kept (this project's
-- own).
use Rattle.std.specs.Prelude.{◌<◌, List, length, IsSome}
use Rattle.bl_syntax.specs.declared.limits.TheConstants.{MOST_STATEMENTS}
use Rattle.bl_syntax.specs.TimeOrder.{IsMoment}
use Rattle.policy_statement.specs.Registered.{RegisteredView}
use Rattle.policy_statement.specs.Withdrawal.{live_of_number}
use Rattle.journal_records.specs.declared.event.Event.{Event}
use Rattle.journal_records.specs.declared.event.Event.TheVariants as events
use Rattle.access_history.specs.declared.event.Addition.{Addition}
use Rattle.access_history.specs.declared.event.Addition.TheVariants as additions

-- an event that has a moment has one of the range
abbrev pub HasMomentInRange : Event → Type 0
HasMomentInRange (events.Acted pass caller op procaps moment) = IsMoment moment
HasMomentInRange _ = Unit {0}

-- a statement more is within the limit, and one that is withdrawn stands
abbrev pub HasPlaceAmong : List RegisteredView → Addition → Type 0
HasPlaceAmong statements (additions.Statement statement signature) = length statements < MOST_STATEMENTS
HasPlaceAmong statements (additions.Withdrawal number) = IsSome (live_of_number statements number)
HasPlaceAmong statements _ = Unit {0}
