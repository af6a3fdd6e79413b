-- The first issue that is not good ends the test.
use Rattle.policy_statement.specs.Registry.{sayings}
use Rattle.access_history.specs.Citing.{IsGoodIssue}
use Rattle.op_gate.specs.declared.damage.Damage.TheVariants.{Unproved}
use Rattle.op_gate.proofs.BaseDamageLemmas.{told_by_item}
use Rattle.op_gate.proofs.base.test_issues.Goals as goal

pub returns-in-Err : goal.returns-in-Err
returns-in-Err c =
    told_by_item (IsGoodIssue (sayings c.args.entries.now)) Unproved c.args.issues.now c.loop-issue.issue-index c.issue-item.result c.in-Err.fault c.loop-issue-test.true c.issue-item.is c.in-Err.ensures
