-- A history that keeps one more event (this project's own).
use Rattle.std.specs.Prelude.{◌≡◌, ◌<◌, [], ◌∷◌, ◌++◌}
use Rattle.bl_syntax.specs.declared.limits.TheConstants.{MOST_EVENTS}
use Rattle.journal_records.specs.declared.event.Event.{Event}
use Rattle.access_history.specs.History.{HistoryView, authority_of, state_of}
use Rattle.access_history.specs.Lawful.{MayFollow}

-- the event may come next, and has a number
pub record MayKeep (before : HistoryView) (event : Event) : Type 0 where
  pub follows : MayFollow (authority_of before) (state_of before) event
  pub counted : (state_of before).count < MOST_EVENTS

-- the history after that has the event at its end
pub record Keeps (before : HistoryView) (event : Event) (after : HistoryView) : Type 0 where
  pub key_is : after.key ≡ before.key
  pub ring_is : after.ring ≡ before.ring
  pub base_is : after.base ≡ before.base
  pub events_are : after.events ≡ before.events ++ event ∷ []
