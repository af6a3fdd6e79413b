-- The conditions before the place hold.
use Rattle.std.proofs.Common.{take}
use Rattle.std.specs.List.{AllByRecursion}
use Rattle.bl_syntax.specs.Grant.{HoldsAt}
use Rattle.condition_set.proofs.failing.first_failing_time.Given as goal

abbrev pub invariant-loop-place : goal.invariant-loop-place
invariant-loop-place l = AllByRecursion (HoldsAt l.t) (take l.place l.c-items)
