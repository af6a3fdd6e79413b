-- Each entry adds its end.
use Rattle.std.proofs.Common.{arith}
use Rattle.pcfs_audit.specs.Ends.{base_end}
use Rattle.pcfs_audit.proofs.ReferenceLemmas.{mapped_all, mapped_more}
use Rattle.pcfs_audit.proofs.ends.base_ends.Goals as goal

pub loop-entry-preserved : goal.loop-entry-preserved
loop-entry-preserved c =
    mapped_more base_end c.statements-entries.result.now c.loop-entry.entry-index c.entry-item.result c.loop-entry.ends.items c.push.new.self.items c.base_end.result c.loop-entry-test.true c.entry-item.is c.base_end.ensures c.loop-entry.invariant c.in_ok-push.ensures.items

pub returns : goal.returns
returns c =
    mapped_all base_end c.statements-entries.result.now c.args.base.now.statements c.loop-entry.entry-index c.loop-entry.ends.items (omega (arith, c.loop-entry-test.false)) c.statements-entries.ensures c.loop-entry.invariant
