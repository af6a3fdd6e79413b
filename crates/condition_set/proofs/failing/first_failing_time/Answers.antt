-- The conditions before the place hold, and the one there does not.
use Rattle.std.proofs.Common.{w64}
use Rattle.std.proofs.lemmas.Int.{to_z-of_z}
use Rattle.bl_syntax.specs.Grant.{HoldsAt}
use Rattle.condition_set.proofs.FirstFailingLemmas.{fails_first}
use Rattle.condition_set.proofs.failing.first_failing_time.Goals as goal

pub returns-then-not-holds_at-clause-first : goal.returns-then-not-holds_at-clause-first
returns-then-not-holds_at-clause-first c =
    let holds_before = rw (to_z-of_z w64 c.args.t c.ranges.t) at c.loop-place.invariant in
    let fails = rw (to_z-of_z w64 c.args.t c.ranges.t) at c.if-not-holds_at.ensures in
    rw (← c.times-c-items.ensures.same) (fails_first (HoldsAt c.args.t) _ c.loop-place.place c.c-item.result c.loop-place-test.true c.c-item.is holds_before fails.1)
