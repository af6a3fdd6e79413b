use Rattle.bl_syntax.proofs.ReportsFaultLemmas.{stops}
use Rattle.checkpoint_image.specs.Chain.{chain_at}
use Rattle.checkpoint_image.specs.WithdrawnNumbers.{withdrawn_number_at, number_left}
use Rattle.checkpoint_image.proofs.LoopLemmas.{goes_on, ends, is_done}
use Rattle.checkpoint_image.proofs.withdrawn_numbers.many_withdrawn_numbers_at.Goals as goal

pub returns-in-Err : goal.returns-in-Err
returns-in-Err c =
    ends c.in-Err.fault (λ previous. withdrawn_number_at c.args.most previous c.args.input) number_left c.loop.numbers c.args.count c.loop.counter c.loop.previous c.loop.rest.now (chain_at (λ previous. withdrawn_number_at c.args.most previous c.args.input) number_left c.args.count 0 c.args.bytes.now) c.loop-test.true
    (stops c.in-Err.fault (withdrawn_number_at c.args.most c.loop.previous c.args.input c.loop.rest.now) c.in-Err.ensures) c.loop.invariant

pub loop-preserved : goal.loop-preserved
loop-preserved c =
    rw c.in_ok-push-in-Ok.ensures.ok (goes_on (λ previous. withdrawn_number_at c.args.most previous c.args.input) number_left c.loop.numbers c.args.count c.loop.counter c.loop.previous c.loop.rest.now c.in-Ok.number c.in-Ok.behind.now (chain_at (λ previous. withdrawn_number_at c.args.most previous c.args.input) number_left c.args.count 0 c.args.bytes.now) c.loop-test.true c.in-Ok.ensures c.loop.invariant)

pub returns : goal.returns
returns c =
    is_done (λ previous. withdrawn_number_at c.args.most previous c.args.input) number_left c.loop.numbers c.args.count c.loop.counter c.loop.previous c.loop.rest.now (chain_at (λ previous. withdrawn_number_at c.args.most previous c.args.input) number_left c.args.count 0 c.args.bytes.now) c.loop-test.false c.loop.invariant
