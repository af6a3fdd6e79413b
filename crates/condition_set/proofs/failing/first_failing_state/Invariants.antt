-- The conditions before the place are true.
use Rattle.std.proofs.Common.{take}
use Rattle.std.specs.Prelude.{Contains}
use Rattle.std.specs.List.{AllByRecursion}
use Rattle.condition_set.proofs.failing.first_failing_state.Given as goal

abbrev pub invariant-loop-place : goal.invariant-loop-place
invariant-loop-place g l = AllByRecursion (Contains (g.X.Facts.facts l.facts)) (take l.place l.s-items)
