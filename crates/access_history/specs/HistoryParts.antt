-- What the fields of a history stand for.
use Rattle.std.specs.Prelude.{◌≡◌, min}
use Rattle.issue_standings.specs.Index.{IsIndexOf, room_of}
use Rattle.access_history.specs.declared.history.History.TheInside.{Inside}
use Rattle.access_history.specs.Base.{BaseView}
use Rattle.access_history.specs.Gone.{bearings}
use Rattle.access_history.specs.History.{HistoryView, authority_of, spare}
use Rattle.access_history.specs.Lawful.{IsLawful}
use Rattle.access_history.specs.Replay.{replay}

-- the history that the fields stand for
abbrev pub kept_by : Inside → HistoryView
kept_by h = record {
  key = h.key;
  ring = h.ring;
  base = h.base;
  events = h.events.items;
  room =
      min (spare h.events) (min h.statements.spare (min (spare h.issues) (room_of h.standings)));
  ready = h.world.ready;
}

-- the state that the fields show
abbrev pub shown_state : Inside → BaseView
shown_state h = record { world = h.world.world; statements = h.statements.entries; issues = h.issues.items; moment = h.moment; count = h.count }

-- the events are lawful, the fields show the state to which they lead, and how each grant stands
-- that was issued
pub record IsKeeping (h : Inside) : Type 0 where
  pub lawful : IsLawful (authority_of (kept_by h)) h.base h.events.items
  pub state_is : shown_state h ≡ replay h.base h.events.items
  pub standings : IsIndexOf h.key h.statements.entries (bearings h.issues.items) h.standings
