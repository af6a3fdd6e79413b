-- The first signature that is not accepted ends the test.
use Rattle.op_gate.specs.BaseTests.{IsSignedIn}
use Rattle.op_gate.specs.declared.damage.Damage.TheVariants.{Unsigned}
use Rattle.op_gate.proofs.BaseDamageLemmas.{told_by_item}
use Rattle.op_gate.proofs.base.test_signatures.Goals as goal

pub returns-in-Err-clause-signed : goal.returns-in-Err-clause-signed
returns-in-Err-clause-signed c =
    told_by_item (IsSignedIn c.args.ring.now) Unsigned c.args.entries.now c.loop-entry.entry-index c.entry-item.result c.in-Err.fault c.loop-entry-test.true c.entry-item.is c.in-Err.ensures.signed
