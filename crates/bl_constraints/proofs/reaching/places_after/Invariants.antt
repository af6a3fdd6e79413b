use Rattle.std.proofs.Common.{take}
use Rattle.bl_constraints.specs.Reached.{AreAfter, constraints_of}
use Rattle.bl_constraints.proofs.reaching.places_after.Given as goal

abbrev pub invariant-loop-place : goal.invariant-loop-place
invariant-loop-place l = AreAfter (take l.place (constraints_of l.items)) l.u l.reached.words
