-- Each digest gets its place.
use Rattle.std.proofs.Common.{arith, refl}
use Rattle.pcfs_audit.proofs.FirstsLemmas.{AreBelow-entered, AreFirsts-all, AreFirsts-entered}
use Rattle.pcfs_audit.proofs.firsts.firsts_of.Goals as goal

pub loop-place-preserved : goal.loop-place-preserved
loop-place-preserved c = record {
  found = AreFirsts-entered c.loop-place.firsts.entries c.enter.new.firsts.entries _ c.loop-place.place c.loop-place.invariant.below c.in_ok-enter.ensures.own c.in_ok-enter.ensures.others c.args.digests.now c.loop-place-test.true refl c.loop-place.invariant.found;
  below = AreBelow-entered c.loop-place.firsts.entries c.enter.new.firsts.entries _ c.loop-place.place c.loop-place.invariant.below c.in_ok-enter.ensures.own c.in_ok-enter.ensures.others;
}

pub returns : goal.returns
returns c = AreFirsts-all c.args.digests.now c.loop-place.place c.loop-place.firsts.entries (omega (arith, c.loop-place-test.false)) c.loop-place.invariant.found
