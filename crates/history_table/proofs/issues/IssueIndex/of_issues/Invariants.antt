-- The issues so far are in the index.
use Rattle.std.proofs.Common.{take}
use Rattle.history_table.specs.Index.{IsIndexOf, digests_of}
use Rattle.history_table.proofs.issues.IssueIndex.of_issues.Given as goal

abbrev pub invariant-loop-issue : goal.invariant-loop-issue
invariant-loop-issue l = IsIndexOf (digests_of l.key (take l.issue-index l.issues)) l.index
