-- The first statement that is not new ends the test.
use Rattle.op_gate.specs.BaseTests.{IsSignedIn}
use Rattle.op_gate.proofs.BaseDamageLemmas.{AreKept-more, told_by_entry, item_of}
use Rattle.op_gate.proofs.base.test_new.Goals as goal

pub keep_new-requires : goal.keep_new-requires
keep_new-requires c = item_of (IsSignedIn c.args.ring.now) c.args.entries.now c.loop-entry.entry-index c.entry-item.result c.loop-entry-test.true c.entry-item.is c.requires

pub returns-in-Err : goal.returns-in-Err
returns-in-Err c =
    told_by_entry c.loop-entry.registry.entries c.args.entries.now c.loop-entry.entry-index c.entry-item.result c.in-Err.fault c.loop-entry-test.true c.entry-item.is c.loop-entry.invariant c.in-Err.ensures.new

pub loop-entry-preserved : goal.loop-entry-preserved
loop-entry-preserved c =
    AreKept-more c.loop-entry.registry.entries c.keep_new.new.registry.entries c.args.entries.now c.loop-entry.entry-index c.entry-item.result c.loop-entry-test.true c.entry-item.is c.loop-entry.invariant c.in-Ok.ensures.new c.in-Ok.ensures.kept
