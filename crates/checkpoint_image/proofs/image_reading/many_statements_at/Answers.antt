use Rattle.checkpoint_image.specs.Chain.{chain_at, alone, nothing_left}
use Rattle.checkpoint_image.specs.ImageReading.{entry_at}
use Rattle.checkpoint_image.proofs.LoopLemmas.{goes_on, ends, is_done}
use Rattle.checkpoint_image.proofs.image_reading.many_statements_at.Goals as goal

pub returns-in-Err : goal.returns-in-Err
returns-in-Err c =
    ends c.in-Err.fault (alone (entry_at c.args.input)) nothing_left c.loop.statements c.args.count c.loop.counter tt c.loop.rest.now (chain_at (alone (entry_at c.args.input)) nothing_left c.args.count tt c.args.bytes.now) c.loop-test.true c.in-Err.ensures c.loop.invariant

pub loop-preserved : goal.loop-preserved
loop-preserved c =
    rw c.in_ok-push-in-Ok.ensures.ok (goes_on (alone (entry_at c.args.input)) nothing_left c.loop.statements c.args.count c.loop.counter tt c.loop.rest.now c.in-Ok.statement c.in-Ok.behind.now (chain_at (alone (entry_at c.args.input)) nothing_left c.args.count tt c.args.bytes.now) c.loop-test.true c.in-Ok.ensures c.loop.invariant)

pub returns : goal.returns
returns c = is_done (alone (entry_at c.args.input)) nothing_left c.loop.statements c.args.count c.loop.counter tt c.loop.rest.now (chain_at (alone (entry_at c.args.input)) nothing_left c.args.count tt c.args.bytes.now) c.loop-test.false c.loop.invariant
