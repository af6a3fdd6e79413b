use Rattle.session_history.proofs.GrowthLemmas.{session_places, session_answered}
use Rattle.session_history.proofs.laws.places_go_on.Goals as goal

pub returns-clause-places : goal.returns-clause-places
returns-clause-places g c = λ p history start from lines answers end to given. session_places (g.C.TurnClock.gives c.args.clock.now) p history start from lines answers end to given

pub returns-clause-answered : goal.returns-clause-answered
returns-clause-answered g c = λ p history start from lines answers end to given. session_answered (g.C.TurnClock.gives c.args.clock.now) p history start from lines answers end to given
