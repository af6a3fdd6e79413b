use Rattle.std.proofs.Common.{length, ap, arith}
use Rattle.std.specs.Prelude.{List}
use Rattle.std.proofs.lemmas.List.{length-map}
use Rattle.bl_syntax.specs.declared.terms.Constraint.{Constraint}
use Rattle.bl_constraints.specs.declared.tracked.Tracked.{Tracked}
use Rattle.bl_constraints.proofs.ReachedLemmas.{tracked_pushed}
use Rattle.bl_constraints.proofs.stack.ConstraintStack.push.Goals as goal

pub invariant_of-self-2 : goal.invariant_of-self-2
invariant_of-self-2 c =
    let items = c.self.inside.tracked.items in
    rw c.in_ok-push.ensures.items
    (tracked_pushed items c.track-tracked.result c.self.invariant
    (omega (arith, c.requires, length-map items (λ (x : Tracked). x.constraint), ap (λ (l : List Constraint). length l) c.self.view_is))
    (rw c.as_slice.ensures.value at c.track-tracked.ensures.tracked))
