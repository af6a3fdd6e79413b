-- None so far is it, or this one is the first.
use Rattle.std.proofs.Common.{arith}
use Rattle.op_gate.proofs.CheckLemmas.{is_so, is_not_so}
use Rattle.pcfs_audit.proofs.FirstsLemmas.{first_shown}
use Rattle.pcfs_audit.proofs.ReferenceLemmas.{among_all, among_more, among_none}
use Rattle.pcfs_audit.proofs.grants.find_among.Goals as goal

pub loop-place-init : goal.loop-place-init
loop-place-init c = among_none c.args.grants.now c.args.grant.now

pub returns-then-is_same : goal.returns-then-is_same
returns-then-is_same c =
    first_shown c.args.grants.now c.loop-place.place c.index-grants-place.result c.args.grant.now c.loop-place-test.true c.index-grants-place.is (is_so _ _ c.is_same.ensures.decides c.if-is_same.true) c.loop-place.invariant

pub loop-place-preserved : goal.loop-place-preserved
loop-place-preserved c =
    among_more c.args.grants.now c.loop-place.place c.index-grants-place.result c.args.grant.now c.loop-place-test.true c.index-grants-place.is (is_not_so _ _ c.is_same.ensures.decides c.if-is_same.false) c.loop-place.invariant

pub returns : goal.returns
returns c = among_all c.args.grants.now c.loop-place.place c.args.grant.now (omega (arith, c.loop-place-test.false)) c.loop-place.invariant
