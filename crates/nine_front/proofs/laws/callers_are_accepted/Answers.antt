use Rattle.nine_front.proofs.CallerLemmas.{logins_accepted, callers_accepted}
use Rattle.nine_front.proofs.laws.callers_are_accepted.Goals as goal

pub returns-clause-logins : goal.returns-clause-logins
returns-clause-logins g c = λ p history nonce from messages replies end to given who placed caller. logins_accepted (g.C.TurnClock.gives c.args.clock.now) p history nonce from messages replies end to given who placed caller

pub returns-clause-callers : goal.returns-clause-callers
returns-clause-callers g c = λ p history nonce from messages replies end to given placed. callers_accepted (g.C.TurnClock.gives c.args.clock.now) p history nonce from messages replies end to given placed
