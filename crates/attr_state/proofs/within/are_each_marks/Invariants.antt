-- All are marks exactly if those that are left are.
use Rattle.std.proofs.Common.{◌↔◌, drop}
use Rattle.attr_state.proofs.WithinLemmas.{AreEachMarks}
use Rattle.attr_state.proofs.within.are_each_marks.Given as goal

abbrev pub invariant-loop-row : goal.invariant-loop-row
invariant-loop-row l = AreEachMarks (drop l.row-index l.rows) ↔ AreEachMarks l.rows
