-- Each issue so far is good.
use Rattle.std.proofs.Common.{take}
use Rattle.std.specs.List.{AllByRecursion}
use Rattle.policy_statement.specs.Registry.{sayings}
use Rattle.access_history.specs.Citing.{IsGoodIssue}
use Rattle.op_gate.proofs.base.test_issues.Given as goal

abbrev pub invariant-loop-issue : goal.invariant-loop-issue
invariant-loop-issue l = AllByRecursion (IsGoodIssue (sayings l.entries)) (take l.issue-index l.issues)
