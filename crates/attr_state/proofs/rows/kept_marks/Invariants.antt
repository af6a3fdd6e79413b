-- The marks so far, and those of the rows to come, are all.
use Rattle.std.proofs.Common.{◌≡◌, ◌++◌, drop, map}
use Rattle.node_rows.specs.Rows.{meta_row}
use Rattle.attr_state.specs.Index.{marks_of}
use Rattle.attr_state.proofs.rows.kept_marks.Given as goal

abbrev pub invariant-loop-row : goal.invariant-loop-row
invariant-loop-row l = marks_of l.marks.entries ++ map meta_row (drop l.row-index l.rows) ≡ map meta_row l.rows
