-- The lines before this one are added.
use Rattle.std.proofs.Common.{length}
use Rattle.mode_policy.proofs.ReadingLemmas.{HasAdded}
use Rattle.mode_policy.proofs.table.ModeTable.parse.Given as goal

abbrev pub invariant-loop-line : goal.invariant-loop-line
invariant-loop-line l = HasAdded l.fn.text l.table l.rest l.place

abbrev pub decreases-loop-line : goal.decreases-loop-line
decreases-loop-line l = length l.rest
