-- The rows so far, and those of the marks to come, are all.
use Rattle.std.proofs.Common.{◌≡◌, ◌++◌, map}
use Rattle.node_rows.specs.Rows.{meta_row}
use Rattle.attr_state.specs.Index.{marks_of}
use Rattle.attr_state.proofs.rows.rows_of.Given as goal

abbrev pub invariant-loop-number : goal.invariant-loop-number
invariant-loop-number l = map meta_row l.rows ++ marks_of l.number-iterator ≡ marks_of l.fn.marks.entries
