use Rattle.std.proofs.Common.{arith}
use Rattle.checkpoint_image.proofs.WithdrawnLemmas.{few_so_far, numbers_counted, numbers_all}
use Rattle.checkpoint_image.proofs.withdrawn_numbers.count_withdrawn.Goals as goal

pub counted-count-requires : goal.counted-count-requires
counted-count-requires c =
    let few = few_so_far c.args.statements.now c.loop-entry.entry-index c.loop-entry.count c.loop-entry.invariant in
    omega (arith, few, c.loop-entry-test.true, c.requires)

pub loop-entry-preserved : goal.loop-entry-preserved
loop-entry-preserved c =
    numbers_counted c.args.statements.now c.loop-entry.entry-index c.entry-item.result c.loop-entry.count c.counted-count.result c.loop-entry-test.true c.entry-item.is c.loop-entry.invariant c.counted-count.ensures

pub returns : goal.returns
returns c = numbers_all c.args.statements.now c.loop-entry.entry-index c.loop-entry.count (omega (arith, c.loop-entry-test.false)) c.loop-entry.invariant
