-- None so far is it, or this one is.
use Rattle.std.proofs.Common.{refl, subst, arith}
use Rattle.std.specs.Prelude.{Contains}
use Rattle.op_gate.proofs.CheckLemmas.{is_so, is_not_so}
use Rattle.pcfs_audit.specs.Papers.{shown}
use Rattle.pcfs_audit.proofs.CitesLemmas.{is_false}
use Rattle.pcfs_audit.proofs.ReferenceLemmas.{Contains-shown, among_all, among_more, among_none}
use Rattle.pcfs_audit.proofs.statements.is_among.Goals as goal

pub loop-other-init : goal.loop-other-init
loop-other-init c = among_none c.args.statements.now c.args.statement.now

pub returns-then-is_same : goal.returns-then-is_same
returns-then-is_same c = (
  λ yes. subst (Contains (shown c.args.statements.now)) (is_so _ _ c.is_same.ensures c.if-is_same.true) (Contains-shown c.args.statements.now c.loop-other.other-index c.other-item.result c.loop-other-test.true c.other-item.is),
  λ here. refl,
)

pub loop-other-preserved : goal.loop-other-preserved
loop-other-preserved c = among_more c.args.statements.now c.loop-other.other-index c.other-item.result c.args.statement.now c.loop-other-test.true c.other-item.is (is_not_so _ _ c.is_same.ensures c.if-is_same.false) c.loop-other.invariant

pub returns : goal.returns
returns c = is_false (among_all c.args.statements.now c.loop-other.other-index c.args.statement.now (omega (arith, c.loop-other-test.false)) c.loop-other.invariant)
