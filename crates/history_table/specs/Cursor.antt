-- The cursor of a history: it goes through the events, and has the state before the next one (this
-- project's own).
use Rattle.std.specs.Prelude.{◌≡◌, ◌≤◌, ℕ, length, take}
use Rattle.access_history.specs.Base.{BaseView}
use Rattle.access_history.specs.History.{HistoryView, state_of}
use Rattle.access_history.specs.Replay.{replay}
use Rattle.history_table.specs.declared.issues.IssueIndex.{IssueIndex}
use Rattle.history_table.specs.Index.{IsIndexOf, digests_of}

-- the history, and how many of its events were passed
pub record CursorView : Type 0 where
  pub history : HistoryView
  pub passed : ℕ

-- the state before the next event
abbrev pub state_before : CursorView → BaseView
state_before t = replay t.history.base (take t.passed t.history.events)

-- the second history has so many of the events of the first, and the index its issues
pub record IsAt (whole : HistoryView) (passed : ℕ) (before : HistoryView) (index : IssueIndex) : Type 0 where
  pub key_is : before.key ≡ whole.key
  pub ring_is : before.ring ≡ whole.ring
  pub base_is : before.base ≡ whole.base
  pub events_are : before.events ≡ take passed whole.events
  pub within : passed ≤ length whole.events
  pub index_is : IsIndexOf (digests_of before.key (state_of before).issues) index
