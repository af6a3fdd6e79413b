-- The issues so far.
use Rattle.std.proofs.Common.{◌≡◌, take}
use Rattle.access_history.proofs.copying.copy_issues.Given as goal

abbrev pub invariant-loop-issue : goal.invariant-loop-issue
invariant-loop-issue l = l.copied ≡ take l.issue-index l.issues
