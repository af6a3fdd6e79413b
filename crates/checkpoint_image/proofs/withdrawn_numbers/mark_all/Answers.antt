use Rattle.std.proofs.Common.{arith, refl}
use Rattle.checkpoint_image.proofs.WithdrawnLemmas.{marks_more, marks_all}
use Rattle.checkpoint_image.proofs.withdrawn_numbers.mark_all.Goals as goal

pub loop-number-preserved : goal.loop-number-preserved
loop-number-preserved c =
    marks_more c.args.entries.now.items c.loop-number.entries.items c.mark.new.entries.items c.args.numbers.now c.loop-number.number-index _ c.loop-number-test.true refl c.loop-number.invariant c.mark.ensures

pub returns : goal.returns
returns c = marks_all c.args.entries.now.items c.loop-number.entries.items c.args.numbers.now c.loop-number.number-index (omega (arith, c.loop-number-test.false)) c.loop-number.invariant
