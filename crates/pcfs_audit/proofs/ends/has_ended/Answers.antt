-- None so far ends, or this one does.
use Rattle.std.proofs.Common.{arith, sym, ◌∙◌}
use Rattle.pcfs_audit.proofs.EndsLemmas.{never_all, never_more}
use Rattle.pcfs_audit.proofs.ends.has_ended.Goals as goal

pub loop-end-preserved : goal.loop-end-preserved
loop-end-preserved c =
    never_more c.args.ends.now c.loop-end.end-index _ c.loop-end-test.true (sym c.is_some.ensures ∙ c.if-is_some.false) c.loop-end.invariant

pub returns : goal.returns
returns c none = never_all c.args.ends.now c.loop-end.end-index (omega (arith, c.loop-end-test.false)) c.loop-end.invariant
