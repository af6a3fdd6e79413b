-- The numbers that are left rise from the last one exactly if all do.
use Rattle.std.proofs.Common.{◌≡◌, drop, map}
use Rattle.node_rows.specs.Rows.{tree_row}
use Rattle.file_tree.specs.RowTests.{is_rising_after}
use Rattle.file_tree.proofs.row_tests.is_rising_after.Given as goal

abbrev pub invariant-loop-row : goal.invariant-loop-row
invariant-loop-row l = is_rising_after l.last (map tree_row (drop l.row-index l.rows)) ≡ is_rising_after l.fn.after (map tree_row l.rows)
