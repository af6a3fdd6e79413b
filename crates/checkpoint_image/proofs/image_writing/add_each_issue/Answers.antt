use Rattle.std.proofs.Common.{arith}
use Rattle.checkpoint_image.specs.ImageSpelling.{issue_spelling, IsSpellableIssue, HasFewCited}
use Rattle.checkpoint_image.proofs.LoopLemmas.{all_read, all_more, all_all, written_more, written_all}
use Rattle.checkpoint_image.proofs.image_writing.add_each_issue.Goals as goal

pub add_issue-requires : goal.add_issue-requires
add_issue-requires c = all_read HasFewCited c.args.issues.now c.loop-issue.issue-index c.issue-item.result c.requires c.loop-issue-test.true c.issue-item.is

pub loop-issue-preserved : goal.loop-issue-preserved
loop-issue-preserved c = (
  written_more issue_spelling c.args.issues.now c.loop-issue.issue-index c.issue-item.result c.args.out.now c.loop-issue.out c.add_issue.new.out c.loop-issue-test.true c.issue-item.is c.loop-issue.invariant.0 c.in_ok-add_issue.ensures.ok,
  all_more IsSpellableIssue c.args.issues.now c.loop-issue.issue-index c.issue-item.result c.loop-issue-test.true c.issue-item.is c.loop-issue.invariant.1 c.in_ok-add_issue.ensures.spelled,
)

pub returns-clause-ok : goal.returns-clause-ok
returns-clause-ok c = written_all issue_spelling c.args.issues.now c.loop-issue.issue-index c.args.out.now c.loop-issue.out (omega (arith, c.loop-issue-test.false)) c.loop-issue.invariant.0

pub returns-clause-spelled : goal.returns-clause-spelled
returns-clause-spelled c = all_all IsSpellableIssue c.args.issues.now c.loop-issue.issue-index (omega (arith, c.loop-issue-test.false)) c.loop-issue.invariant.1
