-- The nodes show the rows so far.
use Rattle.std.proofs.Common.{map, take}
use Rattle.node_rows.specs.Rows.{tree_row}
use Rattle.file_tree.specs.RowTests.{ShowsRows}
use Rattle.file_tree.proofs.from_rows.put_nodes.Given as goal

abbrev pub invariant-loop-row : goal.invariant-loop-row
invariant-loop-row l = ShowsRows l.nodes.entries (map tree_row (take l.row-index l.rows))
