use Rattle.bl_constraints.specs.Reached.{constraints_of}
use Rattle.bl_constraints.proofs.ConstantLemmas.{IsLatestSoFar}
use Rattle.bl_constraints.proofs.constants.latest_start.Given as goal

abbrev pub invariant-loop-place : goal.invariant-loop-place
invariant-loop-place l = IsLatestSoFar (constraints_of l.items) l.t l.before.words l.place l.latest
