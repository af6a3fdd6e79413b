use Rattle.bl_syntax.proofs.ReportsFaultLemmas.{stops}
use Rattle.record_parts.specs.Fields.{u32_at}
use Rattle.record_parts.specs.Parts.{many_at}
use Rattle.record_parts.proofs.ReadingLemmas.{goes_on, ends, is_done}
use Rattle.record_parts.proofs.parts.many_numbers_at.Goals as goal

pub returns-in-Err : goal.returns-in-Err
returns-in-Err c =
    ends c.in-Err.fault u32_at c.loop.numbers c.args.count c.loop.counter c.loop.rest.now (many_at u32_at c.args.count c.args.bytes.now) c.loop-test.true (stops c.in-Err.fault (u32_at c.loop.rest.now) c.in-Err.ensures) c.loop.invariant

pub loop-preserved : goal.loop-preserved
loop-preserved c =
    rw c.in_ok-push-in-Ok.ensures.ok (goes_on u32_at c.loop.numbers c.args.count c.loop.counter c.loop.rest.now c.in-Ok.number c.in-Ok.behind.now (many_at u32_at c.args.count c.args.bytes.now) c.loop-test.true c.in-Ok.ensures c.loop.invariant)

pub returns : goal.returns
returns c = is_done u32_at c.loop.numbers c.args.count c.loop.counter c.loop.rest.now (many_at u32_at c.args.count c.args.bytes.now) c.loop-test.false c.loop.invariant
