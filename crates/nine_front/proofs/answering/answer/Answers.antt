-- The request is taken, and its step done.
use Rattle.std.proofs.Common.{subst, ◌∙◌, ℕ, List}
use Rattle.nine_messages.specs.Replies.{IsWritableReply}
use Rattle.nine_messages.specs.Views.{request_view, reply_view}
use Rattle.nine_fids.specs.declared.step.Step.{Step}
use Rattle.nine_fids.specs.declared.connection.Connection.{Connection}
use Rattle.nine_fids.specs.Taking.{IsTaken}
use Rattle.nine_front.specs.Said.{HasAnswered}
use Rattle.nine_front.specs.Views.{reply_view_of}
use Rattle.nine_front.proofs.StepLemmas.{same_before_turns, comes_after, nonce_taken}
use Rattle.nine_front.proofs.AnsweredLemmas.{answered_untaken, answered_refused, answered_at_once, needs_turns, writable_before}
use Rattle.nine_front.proofs.ShortLemmas.{error_fits}
use Rattle.nine_front.proofs.answering.answer.Goals as goal

pub returns-in-Err-clause-answered : goal.returns-in-Err-clause-answered
returns-in-Err-clause-answered g c = answered_untaken g.D.Disk.faults (g.C.TurnClock.gives c.args.clock.now) c.args.connection.now (request_view c.args.request.now) c.take.new.self c.args.pass.now c.in-Err.ensures.err

pub returns-in-Refused-clause-answered : goal.returns-in-Refused-clause-answered
returns-in-Refused-clause-answered g c =
    answered_refused g.D.Disk.faults (g.C.TurnClock.gives c.args.clock.now) c.args.connection.now (request_view c.args.request.now) c.take.new.self c.in-Refused.error c.args.pass.now
    (subst (λ (st : Step). IsTaken c.args.connection.now (request_view c.args.request.now) st c.take.new.self) c.in-Refused.is c.in-Ok.ensures.ok)

pub returns-in-Refused-clause-nonce : goal.returns-in-Refused-clause-nonce
returns-in-Refused-clause-nonce g c = nonce_taken c.args.connection.now c.take.new.self (request_view c.args.request.now) c.in-Ok.step c.in-Ok.ensures.ok

pub returns-in-Refused-clause-writable : goal.returns-in-Refused-clause-writable
returns-in-Refused-clause-writable g c = error_fits c.in-Refused.error

pub returns-in-Answered-clause-answered : goal.returns-in-Answered-clause-answered
returns-in-Answered-clause-answered g c =
    answered_at_once g.D.Disk.faults (g.C.TurnClock.gives c.args.clock.now) c.args.connection.now (request_view c.args.request.now) c.take.new.self c.in-Answered.answer c.args.pass.now
    (subst (λ (st : Step). IsTaken c.args.connection.now (request_view c.args.request.now) st c.take.new.self) c.in-Answered.is c.in-Ok.ensures.ok)

pub returns-in-Answered-clause-nonce : goal.returns-in-Answered-clause-nonce
returns-in-Answered-clause-nonce g c = nonce_taken c.args.connection.now c.take.new.self (request_view c.args.request.now) c.in-Ok.step c.in-Ok.ensures.ok

pub returns-in-Answered-clause-writable : goal.returns-in-Answered-clause-writable
returns-in-Answered-clause-writable g c =
    writable_before c.take.new.self.nonce c.args.connection.now.nonce c.in-Answered.answer (reply_view c.reply.result) c.reply.ensures.reply
    (nonce_taken c.args.connection.now c.take.new.self (request_view c.args.request.now) c.in-Ok.step c.in-Ok.ensures.ok) c.reply.ensures.writable

pub follow-requires-clause-step : goal.follow-requires-clause-step
follow-requires-clause-step g c = comes_after c.args.connection.now c.take.new.self (request_view c.args.request.now) c.in-Ok.step (needs_turns c.in-Ok.step c.in_default.not-Refused c.in_default.not-Answered) c.in-Ok.ensures.ok

pub follow-requires-clause-turns : goal.follow-requires-clause-turns
follow-requires-clause-turns g c = needs_turns c.in-Ok.step c.in_default.not-Refused c.in_default.not-Answered

pub returns-in_default-clause-answered : goal.returns-in_default-clause-answered
returns-in_default-clause-answered g c =
    let same = same_before_turns c.args.connection.now c.take.new.self (request_view c.args.request.now) c.in-Ok.step (needs_turns c.in-Ok.step c.in_default.not-Refused c.in_default.not-Answered) c.in-Ok.ensures.ok in
    subst (λ (s : Connection). HasAnswered g.D.Disk.faults (g.C.TurnClock.gives c.args.clock.now) s (request_view c.args.request.now) c.args.pass.now c.follow.new.pass (reply_view_of s.nonce c.follow.result) c.follow.new.connection) same c.follow.ensures.answered

pub returns-in_default-clause-nonce : goal.returns-in_default-clause-nonce
returns-in_default-clause-nonce g c = c.follow.ensures.nonce ∙ nonce_taken c.args.connection.now c.take.new.self (request_view c.args.request.now) c.in-Ok.step c.in-Ok.ensures.ok

pub returns-in_default-clause-writable : goal.returns-in_default-clause-writable
returns-in_default-clause-writable g c =
    subst (λ (nonce : List ℕ). IsWritableReply (reply_view_of nonce c.follow.result)) (nonce_taken c.args.connection.now c.take.new.self (request_view c.args.request.now) c.in-Ok.step c.in-Ok.ensures.ok) c.follow.ensures.writable
