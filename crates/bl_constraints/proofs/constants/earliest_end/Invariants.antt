use Rattle.bl_constraints.specs.Reached.{constraints_of}
use Rattle.bl_constraints.proofs.ConstantLemmas.{IsEarliestSoFar}
use Rattle.bl_constraints.proofs.constants.earliest_end.Given as goal

abbrev pub invariant-loop-place : goal.invariant-loop-place
invariant-loop-place l = IsEarliestSoFar (constraints_of l.items) l.u l.after.words l.place l.earliest
