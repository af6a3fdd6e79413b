-- The procap is there and may be seen, or not.
use Rattle.std.proofs.Common.{sym, ◌∙◌}
use Rattle.std.proofs.lemmas.Bool.{false≢true}
use Rattle.access_history.specs.History.{authority_of, state_of}
use Rattle.access_history.specs.Numbered.{HasNone}
use Rattle.op_gate.specs.Issued.{IsProcapOf}
use Rattle.op_gate.proofs.IssuedLemmas.{found_some, found_none, shown_decided, hidden_decided, absent_decided}
use Rattle.op_gate.proofs.decide.decide_show.Goals as goal

pub returns-then-may_see : goal.returns-then-may_see
returns-then-may_see c = λ pass clock.
    let state = state_of c.args.history.now in
    let of : IsProcapOf c.args.history.now.key state.issues c.args.number c.in-Some.procap = found_some c.args.history.now.key state.issues c.args.number c.in_ok-procap.field-0 c.in-Some.procap c.in-Some.is c.in_ok-procap.ensures in
    shown_decided (authority_of c.args.history.now) state pass clock c.args.number c.args.who.now c.in-Some.procap of (c.may_see.ensures.0 c.if-may_see.true)

pub returns-else-may_see : goal.returns-else-may_see
returns-else-may_see c = λ pass clock.
    let state = state_of c.args.history.now in
    let of : IsProcapOf c.args.history.now.key state.issues c.args.number c.in-Some.procap = found_some c.args.history.now.key state.issues c.args.number c.in_ok-procap.field-0 c.in-Some.procap c.in-Some.is c.in_ok-procap.ensures in
    hidden_decided (authority_of c.args.history.now) state pass clock c.args.number c.args.who.now c.in-Some.procap of (λ seen. false≢true (sym c.if-may_see.false ∙ c.may_see.ensures.1 seen))

pub returns-in-None : goal.returns-in-None
returns-in-None c = λ pass clock.
    let state = state_of c.args.history.now in
    let none : HasNone state.issues c.args.number = found_none c.args.history.now.key state.issues c.args.number c.in_ok-procap.field-0 c.in-None.is c.in_ok-procap.ensures in
    absent_decided (authority_of c.args.history.now) state pass clock c.args.number c.args.who.now none
