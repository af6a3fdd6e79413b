use Rattle.session_service.proofs.FewLemmas.{session_few}
use Rattle.session_service.proofs.laws.each_entry_has_a_line.Goals as goal

pub returns : goal.returns
returns g c = λ queue nonces p history own s. session_few (g.C.TurnClock.gives c.args.clock.now) p history _ s.from s.lines s.answers s.end s.to own s.placed
