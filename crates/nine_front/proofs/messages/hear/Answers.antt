-- The message is answered and taken, and its reply is spelled, or there was no memory for that.
use Rattle.std.proofs.Common.{arith}
use Rattle.nine_messages.specs.Views.{message_view}
use Rattle.nine_front.proofs.CutLemmas.{bytes_few}
use Rattle.nine_front.proofs.HeardLemmas.{IsAnswered-message, HasHeard-message, spelled_by}
use Rattle.nine_front.proofs.messages.hear.Goals as goal

pub answer-reply-requires-clause-few : goal.answer-reply-requires-clause-few
answer-reply-requires-clause-few g c = bytes_few _ _ _ _ c.in-Message.ensures (omega (arith, c.agreed-agreed.ensures.agreed, c.agreed-agreed.ensures.few))

pub returns-in-Ok-clause-heard : goal.returns-in-Ok-clause-heard
returns-in-Ok-clause-heard g c =
    HasHeard-message c.args.framer.now c.take.new.self (message_view c.in-Message.message) c.in-Message.rest.now _ _ _ c.in-Message.ensures c.take.ensures (omega arith) g.D.Disk.faults (g.C.TurnClock.gives c.args.clock.now) c.args.connection.now c.answer-reply.new.connection
    _ _ _ _ (spelled_by _ _ _ _ _ _ c.requires.empty c.answer-reply.ensures.nonce c.in-Ok.ensures.ok) c.agreed-agreed.ensures.agreed c.agreed_after-after.ensures c.answer-reply.ensures.answered

pub returns-clause-heard : goal.returns-clause-heard
returns-clause-heard g c =
    IsAnswered-message c.args.framer.now c.take.new.self (message_view c.in-Message.message) c.in-Message.rest.now _ _ _ c.in-Message.ensures c.take.ensures (omega arith) g.D.Disk.faults (g.C.TurnClock.gives c.args.clock.now) c.args.connection.now c.answer-reply.new.connection
    _ _ _ c.agreed-agreed.ensures.agreed c.agreed_after-after.ensures c.answer-reply.ensures.answered
