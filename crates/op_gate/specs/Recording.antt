-- An event that is pending with its record (this project's own).
use Rattle.std.specs.Prelude.{◌≡◌}
use Rattle.access_history.specs.History.{HistoryView}
use Rattle.op_gate.specs.declared.planned.Recorded.{Recorded}
use Rattle.op_gate.specs.Decision.{CanKeep}

-- it can be kept, and the record is its own
pub record CanKeepRecorded (h : HistoryView) (r : Recorded) : Type 0 where
  pub keeps : CanKeep h r.pending
  pub kept_is : r.kept ≡ r.pending.event
