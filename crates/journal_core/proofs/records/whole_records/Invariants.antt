use Rattle.std.proofs.Common.{◌-◌}
use Rattle.journal_core.specs.Area.{area_limit}
use Rattle.journal_core.specs.ScanView.{all_bytes_at}
use Rattle.journal_core.specs.Reports.{RecordsEndAt}
use Rattle.journal_core.proofs.records.whole_records.Given as goal

abbrev pub invariant-loop-to : goal.invariant-loop-to
invariant-loop-to l = RecordsEndAt l.bytes l.from (all_bytes_at l.bytes l.places) l.end

abbrev pub decreases-loop-to : goal.decreases-loop-to
decreases-loop-to l = area_limit - l.end
