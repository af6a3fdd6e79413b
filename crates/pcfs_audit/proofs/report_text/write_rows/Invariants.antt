-- The rows so far are written.
use Rattle.std.proofs.Common.{◌≡◌, ◌++◌, take}
use Rattle.pcfs_audit.specs.ReportText.{rows_text}
use Rattle.pcfs_audit.proofs.report_text.write_rows.Given as goal

abbrev pub invariant-loop-row : goal.invariant-loop-row
invariant-loop-row l = l.out ≡ l.fn.out ++ rows_text (take l.row-index l.rows)
