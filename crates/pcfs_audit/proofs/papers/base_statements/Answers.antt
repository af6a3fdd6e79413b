-- Each entry adds its statement.
use Rattle.std.proofs.Common.{arith}
use Rattle.policy_statement.specs.Registered.{RegisteredView}
use Rattle.pcfs_audit.proofs.ReferenceLemmas.{pushed_all, pushed_more}
use Rattle.pcfs_audit.proofs.papers.base_statements.Goals as goal

pub loop-entry-preserved : goal.loop-entry-preserved
loop-entry-preserved c =
    pushed_more (λ (e : RegisteredView). e.statement) c.statements-entries.result.now c.loop-entry.entry-index c.entry-item.result c.loop-entry.statements.items c.push.new.self.items c.statement.result
    c.loop-entry-test.true c.entry-item.is c.statement.ensures c.loop-entry.invariant c.in_ok-push.ensures.items

pub returns : goal.returns
returns c =
    pushed_all (λ (e : RegisteredView). e.statement) c.statements-entries.result.now c.args.base.now.statements c.loop-entry.entry-index c.loop-entry.statements.items (omega (arith, c.loop-entry-test.false)) c.statements-entries.ensures
    c.loop-entry.invariant
