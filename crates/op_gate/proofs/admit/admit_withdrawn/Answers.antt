-- What the registry tells is tested, as for a request.
use Rattle.std.specs.Prelude.{Ok, Err}
use Rattle.std.proofs.Common.{sym, subst}
use Rattle.policy_statement.specs.Ring.{is_accepted}
use Rattle.policy_statement.specs.Withdrawal.{MayWithdraw}
use Rattle.journal_records.specs.declared.event.Event.TheVariants.{Withdrawn}
use Rattle.access_history.specs.History.{state_of}
use Rattle.op_gate.specs.declared.damage.AdmitFault.{AdmitFault}
use Rattle.op_gate.specs.Admits.{GivesPending}
use Rattle.op_gate.proofs.AdmitLemmas.{withdrawn_pending, withdrawn_damaged}
use Rattle.op_gate.proofs.RegistryLemmas.{MayWithdraw-shown}
use Rattle.op_gate.proofs.admit.admit_withdrawn.Goals as goal

pub returns-in-Ok : goal.returns-in-Ok
returns-in-Ok c =
    let h = c.args.history.now in
    let may : MayWithdraw (is_accepted h.ring) (state_of h).statements c.args.number c.args.signature (Ok c.in-Ok.field-0) = MayWithdraw-shown h.ring c.ring.result.now (state_of h).statements c.registry-registry.result.now.entries c.args.number c.args.signature c.as_slice.result.now (Ok c.in-Ok.field-0)
    c.ring.ensures c.as_slice.ensures c.registry-registry.ensures c.in-Ok.ensures in
    withdrawn_pending h c.args.pass c.args.number c.args.signature c.in-Ok.field-0 c.withdrawn.result may c.withdrawn.ensures

pub returns-in-Err : goal.returns-in-Err
returns-in-Err c =
    let h = c.args.history.now in
    let may : MayWithdraw (is_accepted h.ring) (state_of h).statements c.args.number c.args.signature (Err c.in-Err.fault) = MayWithdraw-shown h.ring c.ring.result.now (state_of h).statements c.registry-registry.result.now.entries c.args.number c.args.signature c.as_slice.result.now (Err c.in-Err.fault)
    c.ring.ensures c.as_slice.ensures c.registry-registry.ensures c.in-Err.ensures in
    subst (λ (f : AdmitFault). GivesPending h h (Withdrawn c.args.pass c.args.number c.args.signature) (Err f)) (sym c.withdraw_damage.ensures)
    (withdrawn_damaged h c.args.pass c.args.number c.args.signature c.in-Err.fault c.requires may)
