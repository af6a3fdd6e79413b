use Rattle.std.proofs.Common.{◌≡◌, ◌++◌, map}
use Rattle.node_rows.specs.Rows.{tree_row}
use Rattle.file_tree.specs.Index.{rows_of}
use Rattle.file_tree.proofs.to_rows.rows_of_all.Given as goal

-- the rows so far, and those of the nodes to come, are all
abbrev pub invariant-loop-number : goal.invariant-loop-number
invariant-loop-number l = map tree_row l.rows ++ rows_of l.number-iterator ≡ rows_of l.nodes.entries
