-- What the registry tells is the answer.
use Rattle.std.specs.Prelude.{Ok, Err}
use Rattle.std.proofs.Common.{sym, subst}
use Rattle.policy_statement.specs.Ring.{is_accepted}
use Rattle.policy_statement.specs.Withdrawal.{MayWithdraw}
use Rattle.access_history.specs.declared.request.StepRequest.TheVariants.{Withdraw}
use Rattle.access_history.specs.History.{state_of}
use Rattle.op_gate.specs.declared.planned.DecisionPlan.{DecisionPlan}
use Rattle.op_gate.specs.Decision.{IsPlanned}
use Rattle.op_gate.proofs.DecisionLemmas.{withdrawn_decided}
use Rattle.op_gate.proofs.RegistryLemmas.{MayWithdraw-shown, may_withdraw, withdrawal_refused}
use Rattle.op_gate.proofs.decide.decide_withdraw.Goals as goal

pub returns-in-Ok : goal.returns-in-Ok
returns-in-Ok c = λ clock.
    let h = c.args.history.now in
    let may : MayWithdraw (is_accepted h.ring) (state_of h).statements c.args.number c.args.signature (Ok c.in-Ok.field-0) = MayWithdraw-shown h.ring c.ring.result.now (state_of h).statements c.registry-registry.result.now.entries c.args.number c.args.signature c.as_slice.result.now (Ok c.in-Ok.field-0)
    c.ring.ensures c.as_slice.ensures c.registry-registry.ensures c.in-Ok.ensures in
    withdrawn_decided h c.args.pass clock c.args.number c.args.signature c.withdrawn.result (may_withdraw h.key h.ring (state_of h).statements c.args.number c.args.signature c.in-Ok.field-0 may) c.withdrawn.ensures

pub returns-in-Err : goal.returns-in-Err
returns-in-Err c = λ clock.
    let h = c.args.history.now in
    let may : MayWithdraw (is_accepted h.ring) (state_of h).statements c.args.number c.args.signature (Err c.in-Err.fault) = MayWithdraw-shown h.ring c.ring.result.now (state_of h).statements c.registry-registry.result.now.entries c.args.number c.args.signature c.as_slice.result.now (Err c.in-Err.fault)
    c.ring.ensures c.as_slice.ensures c.registry-registry.ensures c.in-Err.ensures in
    subst (λ (p : DecisionPlan). IsPlanned h c.args.pass clock (Withdraw c.args.number c.args.signature) p h) (sym c.refused_withdrawal.ensures)
    (withdrawal_refused h c.args.pass clock c.args.number c.args.signature c.in-Err.fault may)
