use Rattle.std.proofs.Common.{ℕ, ◌<◌}
use Rattle.bl_syntax.specs.declared.terms.Constraint.{Constraint}
use Rattle.bl_syntax.specs.Entailment.{IsLink}
use Rattle.std.specs.Prelude.{[]}
use Rattle.bl_constraints.specs.Places.{HasPlace}
use Rattle.bl_constraints.specs.Reached.{StandsAt, constraints_of}
use Rattle.bl_constraints.proofs.reaching.is_linked_from.Given as goal

abbrev pub invariant-loop-place : goal.invariant-loop-place
invariant-loop-place l = (k : ℕ) (c : Constraint) → k < l.place → HasPlace l.reached.words k → StandsAt (constraints_of l.items) k c → IsLink [] c.high l.v → ⊥
