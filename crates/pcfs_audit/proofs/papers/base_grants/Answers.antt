-- Each issue adds its grant.
use Rattle.std.proofs.Common.{arith}
use Rattle.access_history.specs.declared.event.Issue.{Issue}
use Rattle.pcfs_audit.proofs.ReferenceLemmas.{mapped_all, mapped_more}
use Rattle.pcfs_audit.proofs.papers.base_grants.Goals as goal

pub loop-issue-preserved : goal.loop-issue-preserved
loop-issue-preserved c =
    mapped_more (λ (i : Issue). i.grant) c.issues-issues.result.now c.loop-issue.issue-index c.issue-item.result c.loop-issue.grants c.push.new.self c.in_ok-grant.field-0
    c.loop-issue-test.true c.issue-item.is c.in_ok-grant.ensures c.loop-issue.invariant c.in_ok-push.ensures.ok

pub returns : goal.returns
returns c =
    mapped_all (λ (i : Issue). i.grant) c.issues-issues.result.now c.args.base.now.issues c.loop-issue.issue-index c.loop-issue.grants (omega (arith, c.loop-issue-test.false)) c.issues-issues.ensures c.loop-issue.invariant
