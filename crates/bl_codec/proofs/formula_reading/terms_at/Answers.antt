use Rattle.bl_syntax.specs.FormulaReading.{terms_at}
use Rattle.bl_syntax.proofs.ReportsFaultLemmas.{stops}
use Rattle.bl_codec.proofs.TermsLemmas.{goes_on, ends, is_done}
use Rattle.bl_codec.proofs.formula_reading.terms_at.Goals as goal

pub returns-in-Err : goal.returns-in-Err
returns-in-Err c =
    stops c.in-Err.fault _ (ends c.in-Err.fault c.loop.terms c.args.count c.loop.counter c.args.input c.loop.still c.loop.rest.now (terms_at c.args.count c.args.input c.args.left c.args.bytes.now) c.loop-test.true c.in-Err.ensures c.loop.invariant)

pub loop-preserved : goal.loop-preserved
loop-preserved c =
    rw c.in_ok-extend-in-Ok.ensures.ok (goes_on c.loop.terms c.args.count c.loop.counter c.args.input c.loop.still c.loop.rest.now c.in-Ok.t c.in-Ok.after c.in-Ok.behind.now (terms_at c.args.count c.args.input c.args.left c.args.bytes.now) c.loop-test.true c.in-Ok.ensures c.loop.invariant)

pub returns : goal.returns
returns c = is_done c.loop.terms c.args.count c.loop.counter c.args.input c.loop.still c.loop.rest.now (terms_at c.args.count c.args.input c.args.left c.args.bytes.now) c.loop-test.false c.loop.invariant
