-- The names of the rows so far are entered.
use Rattle.std.proofs.Common.{map, take}
use Rattle.node_rows.specs.Rows.{tree_row}
use Rattle.file_tree.specs.Index.{rows_of}
use Rattle.file_tree.specs.RowTests.{NamesRows}
use Rattle.file_tree.proofs.from_rows.enter_names.Given as goal

abbrev pub invariant-loop-row : goal.invariant-loop-row
invariant-loop-row l = NamesRows l.nodes.entries (rows_of l.fn.nodes.entries) (map tree_row (take l.row-index l.rows))
