-- The issues so far are written.
use Rattle.std.proofs.Common.{◌≡◌, ◌++◌, take}
use Rattle.std.specs.List.{AllByRecursion, flat_map}
use Rattle.checkpoint_image.specs.ImageSpelling.{issue_spelling, IsSpellableIssue}
use Rattle.checkpoint_image.proofs.image_writing.add_each_issue.Given as goal

abbrev pub invariant-loop-issue : goal.invariant-loop-issue
invariant-loop-issue l = (l.out ≡ l.fn.out ++ flat_map issue_spelling (take l.issue-index l.issues)) × AllByRecursion IsSpellableIssue (take l.issue-index l.issues)
