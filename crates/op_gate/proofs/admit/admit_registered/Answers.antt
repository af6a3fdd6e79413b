-- What the registry tells is tested, as for a request.
use Rattle.std.specs.Prelude.{Ok, Err}
use Rattle.std.proofs.Common.{sym, subst}
use Rattle.policy_statement.specs.Messages.{statement_message}
use Rattle.policy_statement.specs.Registry.{MayRegister}
use Rattle.policy_statement.specs.Ring.{is_accepted}
use Rattle.journal_records.specs.declared.event.Event.TheVariants.{Registered}
use Rattle.access_history.specs.History.{state_of}
use Rattle.op_gate.specs.declared.damage.AdmitFault.{AdmitFault}
use Rattle.op_gate.specs.Admits.{GivesPending}
use Rattle.op_gate.proofs.AdmitLemmas.{registered_told, registered_damaged}
use Rattle.op_gate.proofs.RegistryLemmas.{MayRegister-shown}
use Rattle.op_gate.proofs.admit.admit_registered.Goals as goal

pub returns-in-Ok : goal.returns-in-Ok
returns-in-Ok c =
    let h = c.args.history.now in
    let may : MayRegister (is_accepted h.ring c.args.statement.who (statement_message c.args.statement) c.args.signature) (state_of h).statements c.args.statement (Ok c.in-Ok.field-0) = MayRegister-shown h.ring c.ring.result.now (state_of h).statements c.registry-registry.result.now.entries c.args.statement c.args.signature c.as_slice.result.now (Ok c.in-Ok.field-0)
    c.ring.ensures c.as_slice.ensures c.registry-registry.ensures c.in-Ok.ensures in
    registered_told h c.args.pass c.args.statement c.args.signature c.in-Ok.field-0 c.register_again.result c.from-from.ensures.kept may c.register_again.ensures.ok c.register_again.ensures.err

pub returns-in-Err : goal.returns-in-Err
returns-in-Err c =
    let h = c.args.history.now in
    let may : MayRegister (is_accepted h.ring c.args.statement.who (statement_message c.args.statement) c.args.signature) (state_of h).statements c.args.statement (Err c.in-Err.fault) = MayRegister-shown h.ring c.ring.result.now (state_of h).statements c.registry-registry.result.now.entries c.args.statement c.args.signature c.as_slice.result.now (Err c.in-Err.fault)
    c.ring.ensures c.as_slice.ensures c.registry-registry.ensures c.in-Err.ensures in
    subst (λ (f : AdmitFault). GivesPending h h (Registered c.args.pass c.args.statement c.args.signature) (Err f)) (sym c.register_damage.ensures)
    (registered_damaged h c.args.pass c.args.statement c.args.signature c.in-Err.fault c.requires may)
