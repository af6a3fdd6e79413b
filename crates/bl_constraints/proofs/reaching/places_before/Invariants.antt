use Rattle.std.proofs.Common.{take}
use Rattle.bl_constraints.specs.Reached.{AreBefore, constraints_of}
use Rattle.bl_constraints.proofs.reaching.places_before.Given as goal

abbrev pub invariant-loop-place : goal.invariant-loop-place
invariant-loop-place l = AreBefore (take l.place (constraints_of l.items)) l.t l.leading.words
