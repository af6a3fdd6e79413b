-- Each statement adds its digest.
use Rattle.std.proofs.Common.{arith}
use Rattle.policy_statement.specs.Digest.{digest_of}
use Rattle.pcfs_audit.proofs.ReferenceLemmas.{values_all, values_more}
use Rattle.pcfs_audit.proofs.digests.statement_digests.Goals as goal

pub loop-statement-preserved : goal.loop-statement-preserved
loop-statement-preserved c =
    values_more digest_of c.args.statements.now c.loop-statement.statement-index c.statement-item.result c.loop-statement.digests.items c.push.new.self.items c.digest.result
    c.loop-statement-test.true c.statement-item.is c.digest.ensures c.loop-statement.invariant c.in_ok-push.ensures.items

pub returns : goal.returns
returns c = values_all digest_of c.args.statements.now c.loop-statement.statement-index c.loop-statement.digests.items (omega (arith, c.loop-statement-test.false)) c.loop-statement.invariant
