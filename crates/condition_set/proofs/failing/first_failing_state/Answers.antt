-- The conditions before the place are true, and the one there is not.
use Rattle.std.specs.Prelude.{Contains}
use Rattle.condition_set.proofs.FirstFailingLemmas.{fails_first}
use Rattle.condition_set.proofs.failing.first_failing_state.Goals as goal

pub returns-then-not-holds-clause-first : goal.returns-then-not-holds-clause-first
returns-then-not-holds-clause-first g c =
    rw (← c.states-s-items.ensures.same)
    (fails_first (Contains (g.X.Facts.facts c.args.facts.now)) _ c.loop-place.place c.s-item.result c.loop-place-test.true c.s-item.is c.loop-place.invariant c.if-not-holds.ensures.1)
