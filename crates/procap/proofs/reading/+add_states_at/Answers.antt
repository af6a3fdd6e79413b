use Rattle.std.proofs.Common.{◌≡◌, [], ◌∷◌, ◌++◌, true, false, ap, arith}
use Rattle.bl_syntax.specs.Grant.{GrantView}
use Rattle.procap.specs.GrantReading.{state_condition_at, may_follow_states}
use Rattle.bl_syntax.proofs.ReportsFaultLemmas.{stops}
use Rattle.procap.proofs.ReadingLemmas.{items_none, items_fault, items_refused, items_more, state_is_kept}
use Rattle.procap.proofs.reading.+add_states_at.Goals as goal

pub returns-then-count-eq0-clause-read : goal.returns-then-count-eq0-clause-read
returns-then-count-eq0-clause-read t c = items_none state_condition_at may_follow_states c.args.count c.args.input c.args.grant.now.states c.args.bytes.now c.if-count-eq0.true

pub returns-in-Err-clause-read : goal.returns-in-Err-clause-read
returns-in-Err-clause-read t c = stops c.in-Err.fault _ (items_fault state_condition_at may_follow_states c.args.count c.args.input c.args.grant.now.states c.args.bytes.now c.in-Err.fault (omega (arith, c.if-count-eq0.false)) c.in-Err.ensures)

pub returns-then-not-may_follow_states-clause-read : goal.returns-then-not-may_follow_states-clause-read
returns-then-not-may_follow_states-clause-read t c =
    let refused : may_follow_states c.args.grant.now.states c.in-Ok.s ≡ false = rw (← c.states.ensures.same, ← c.may_follow_states.ensures) c.if-not-may_follow_states.true in
    rw c.place.ensures (items_refused state_condition_at may_follow_states c.args.count c.args.input c.args.grant.now.states c.args.bytes.now c.in-Ok.s c.in-Ok.rest.now (omega (arith, c.if-count-eq0.false)) c.in-Ok.ensures refused)

pub push_state-requires-clause-condition : goal.push_state-requires-clause-condition
push_state-requires-clause-condition t c =
    let follows : may_follow_states c.args.grant.now.states c.in-Ok.s ≡ true = rw (← c.states.ensures.same, ← c.may_follow_states.ensures) c.if-not-may_follow_states.false in
    (state_is_kept c.args.input c.args.bytes.now c.in-Ok.rest.now c.args.grant.now.states c.in-Ok.s (λ i. omega (arith, c.type_inv.bytes i)) c.in-Ok.ensures follows).0

pub push_state-requires-clause-new : goal.push_state-requires-clause-new
push_state-requires-clause-new t c =
    let follows : may_follow_states c.args.grant.now.states c.in-Ok.s ≡ true = rw (← c.states.ensures.same, ← c.may_follow_states.ensures) c.if-not-may_follow_states.false in
    (state_is_kept c.args.input c.args.bytes.now c.in-Ok.rest.now c.args.grant.now.states c.in-Ok.s (λ i. omega (arith, c.type_inv.bytes i)) c.in-Ok.ensures follows).1

pub returns-in_ok-push_state-in-Ok-clause-read : goal.returns-in_ok-push_state-in-Ok-clause-read
returns-in_ok-push_state-in-Ok-clause-read t c =
    let follows : may_follow_states c.args.grant.now.states c.in-Ok.s ≡ true = rw (← c.states.ensures.same, ← c.may_follow_states.ensures) c.if-not-may_follow_states.false in
    let grown : c.push_state.new.self.states ≡ c.args.grant.now.states ++ c.in-Ok.s ∷ [] = ap (λ (g : GrantView). g.states) c.in_ok-push_state-in-Ok.ensures.ok in
    rw (items_more state_condition_at may_follow_states c.args.count c.args.input c.args.grant.now.states c.args.bytes.now c.in-Ok.s c.in-Ok.rest.now (omega (arith, c.if-count-eq0.false)) c.in-Ok.ensures follows, ← grown) c.add_states_at.ensures.read
