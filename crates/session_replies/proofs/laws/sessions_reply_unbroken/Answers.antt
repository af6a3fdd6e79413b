use Rattle.session_replies.proofs.SessionLemmas.{session_unbroken, session_written}
use Rattle.session_replies.proofs.laws.sessions_reply_unbroken.Goals as goal

pub returns-clause-unbroken : goal.returns-clause-unbroken
returns-clause-unbroken g c = λ p history start from lines answers end to given. session_unbroken (g.C.TurnClock.gives c.args.clock.now) p history start from lines answers end to given

pub returns-clause-written : goal.returns-clause-written
returns-clause-written g c = λ p history start from lines answers end to given nonce. session_written (g.C.TurnClock.gives c.args.clock.now) p history start from lines answers end to given nonce
