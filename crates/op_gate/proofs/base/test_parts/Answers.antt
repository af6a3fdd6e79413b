-- The first test that fails, or all of them passed.
use Rattle.std.proofs.Common.{subst}
use Rattle.file_world.specs.World.{IsWorld}
use Rattle.op_gate.proofs.BaseDamageLemmas.{base_told, base_unproved, base_unsigned}
use Rattle.op_gate.proofs.base.test_parts.Goals as goal

pub returns-in-Ok-test_issues : goal.returns-in-Ok-test_issues
returns-in-Ok-test_issues c = λ key.
    base_told key c.args.ring.now c.args.base.now c.statements-entries.result.now c.statements-entries.ensures c.requires c.issues.result.now c.test_new.result c.issues.ensures (subst IsWorld c.world.ensures c.tree-tree.ensures.whole)
    c.in-Ok.ensures.formed c.in-Ok.ensures.signed c.in-Ok-test_issues.ensures c.test_new.ensures

pub returns-in-Err-test_issues : goal.returns-in-Err-test_issues
returns-in-Err-test_issues c = λ key.
    base_unproved key c.args.ring.now c.args.base.now c.statements-entries.result.now c.statements-entries.ensures c.requires c.issues.result.now c.in-Err-test_issues.fault c.issues.ensures c.in-Ok.ensures.signed c.in-Err-test_issues.ensures

pub returns-in-Err : goal.returns-in-Err
returns-in-Err c = λ key. base_unsigned key c.args.ring.now c.args.base.now c.statements-entries.result.now c.statements-entries.ensures c.requires c.in-Err.fault c.in-Err.ensures.signed
