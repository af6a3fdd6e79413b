-- The bytes so far, and those of the rows that are left, are all.
use Rattle.std.proofs.Common.{◌≡◌, ◌≤◌, ◌+◌, drop, map}
use Rattle.file_world.specs.Limits.{most_bytes_together}
use Rattle.file_world.specs.Tree.{contents_sum}
use Rattle.node_rows.specs.Rows.{tree_row}
use Rattle.file_tree.proofs.row_tests.contents_total.Given as goal

abbrev pub invariant-loop-row : goal.invariant-loop-row
invariant-loop-row l = (l.total + contents_sum (map tree_row (drop l.row-index l.rows)) ≡ contents_sum (map tree_row l.rows)) × (l.total ≤ most_bytes_together)
