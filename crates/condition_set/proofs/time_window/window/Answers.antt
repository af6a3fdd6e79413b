-- Each condition narrows the span to what it shares with the condition's own.
use Rattle.std.proofs.Common.{refl}
use Rattle.std.proofs.lemmas.Bool.{false≢true}
use Rattle.condition_set.proofs.WindowLemmas.{is_window, shared_span, at_end, either_in_range}
use Rattle.condition_set.proofs.time_window.window.Goals as goal

pub loop-c-preserved : goal.loop-c-preserved
loop-c-preserved c =
    let so_far = c.loop-c.invariant in
    let span = c.span_of-from.ensures in
    record {
      between = shared_span c.times-c-items.result.now c.loop-c.c-index c.c-item.result c.loop-c-test.true c.c-item.is _ _ _ _ _ _ so_far.between span.between c.later_time-first.ensures.bound c.earlier_time-last.ensures.bound;
      first_in_range = either_in_range _ _ _ so_far.first_in_range span.first_in_range c.later_time-first.ensures.either;
      last_in_range = either_in_range _ _ _ so_far.last_in_range span.last_in_range c.earlier_time-last.ensures.either;
    }

pub returns-then-has_second : goal.returns-then-has_second
returns-then-has_second c =
    let held = c.loop-c.invariant in
    rw (← c.times-c-items.ensures.same)
    (is_window _ c.loop-c.first c.loop-c.last (at_end _ _ c.loop-c-test.false _ _ held.between) held.first_in_range held.last_in_range (c.if-has_second.ensures.0 refl))

pub returns-else-has_second : goal.returns-else-has_second
returns-else-has_second c =
    rw (← c.times-c-items.ensures.same)
    (λ second meets. false≢true (c.if-has_second.ensures.1 (second, (at_end _ _ c.loop-c-test.false _ _ c.loop-c.invariant.between second).0 meets)))
