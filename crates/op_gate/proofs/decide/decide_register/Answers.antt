-- What the registry tells is the answer.
use Rattle.std.proofs.Common.{length, ap}
use Rattle.std.specs.Prelude.{Ok, Err}
use Rattle.policy_statement.specs.Messages.{statement_message}
use Rattle.policy_statement.specs.Registry.{MayRegister}
use Rattle.policy_statement.specs.Ring.{is_accepted}
use Rattle.access_history.specs.History.{state_of}
use Rattle.op_gate.proofs.DecisionLemmas.{registered_decided}
use Rattle.op_gate.proofs.RegistryLemmas.{MayRegister-shown, may_register, rejected_decided}
use Rattle.op_gate.proofs.decide.decide_register.Goals as goal

pub returns-in-Ok : goal.returns-in-Ok
returns-in-Ok c = λ clock.
    let h = c.args.history.now in
    let may : MayRegister (is_accepted h.ring c.args.statement.who (statement_message c.args.statement) c.args.signature) (state_of h).statements c.args.statement (Ok c.in-Ok.field-0) = MayRegister-shown h.ring c.ring.result.now (state_of h).statements c.registry-registry.result.now.entries c.args.statement c.args.signature c.as_slice.result.now (Ok c.in-Ok.field-0)
    c.ring.ensures c.as_slice.ensures c.registry-registry.ensures c.in-Ok.ensures in
    registered_decided h c.args.pass clock c.args.statement c.args.signature (length c.statements.result.now) c.keep_statement.result
    (may_register h.key h.ring (state_of h).statements c.args.statement c.args.signature c.in-Ok.field-0 c.requires may) (ap length c.statements.ensures.same) c.keep_statement.ensures

pub returns-in-Err : goal.returns-in-Err
returns-in-Err c = λ clock.
    let h = c.args.history.now in
    let may : MayRegister (is_accepted h.ring c.args.statement.who (statement_message c.args.statement) c.args.signature) (state_of h).statements c.args.statement (Err c.in-Err.fault) = MayRegister-shown h.ring c.ring.result.now (state_of h).statements c.registry-registry.result.now.entries c.args.statement c.args.signature c.as_slice.result.now (Err c.in-Err.fault)
    c.ring.ensures c.as_slice.ensures c.registry-registry.ensures c.in-Err.ensures in
    rejected_decided h c.args.pass clock c.args.statement c.args.signature c.in-Err.fault c.rejection.result may c.rejection.ensures
