-- Each issue adds its own.
use Rattle.std.proofs.Common.{◌+◌, arith}
use Rattle.access_history.specs.History.{state_of}
use Rattle.history_table.proofs.RestingLemmas.{rests_grow}
use Rattle.history_table.proofs.resting.resting_on.Goals as goal

pub loop-place-preserved : goal.loop-place-preserved
loop-place-preserved c =
    rests_grow (state_of c.args.history.now) c.args.statement c.issues-issues.result.now c.loop-place.place (c.loop-place.place + 1) (c.loop-place.place + 1) c.index-issues-place.result c.loop-place.rests c.add_rest.new.rests
    c.loop-place-test.true (omega arith) (omega arith) c.index-issues-place.is c.loop-place.invariant c.in_ok-add_rest.ensures
