-- Each grant adds its digest.
use Rattle.std.proofs.Common.{arith}
use Rattle.pcfs_audit.specs.Firsts.{grant_digest}
use Rattle.pcfs_audit.proofs.ReferenceLemmas.{values_all, values_more}
use Rattle.pcfs_audit.proofs.digests.grant_digests.Goals as goal

pub loop-grant-preserved : goal.loop-grant-preserved
loop-grant-preserved c =
    values_more (grant_digest c.args.key.now) c.args.grants.now c.loop-grant.grant-index c.grant-item.result c.loop-grant.digests.items c.push.new.self.items c.grant_digest.result
    c.loop-grant-test.true c.grant-item.is c.grant_digest.ensures c.loop-grant.invariant c.in_ok-push.ensures.items

pub returns : goal.returns
returns c = values_all (grant_digest c.args.key.now) c.args.grants.now c.loop-grant.grant-index c.loop-grant.digests.items (omega (arith, c.loop-grant-test.false)) c.loop-grant.invariant
