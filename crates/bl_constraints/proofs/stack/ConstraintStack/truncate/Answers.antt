use Rattle.std.proofs.Common.{◌∙◌, ap, take}
use Rattle.bl_constraints.proofs.ReachedLemmas.{constraints_taken, tracked_taken}
use Rattle.bl_constraints.proofs.stack.ConstraintStack.truncate.Goals as goal

pub invariant_of-self : goal.invariant_of-self
invariant_of-self c = rw c.truncate.ensures.items (tracked_taken c.self.inside.tracked.items c.args.len c.self.invariant)

pub returns : goal.returns
returns c = (rw c.truncate.ensures.items (constraints_taken c.self.inside.tracked.items c.args.len)) ∙ ap (take c.args.len) c.self.view_is
