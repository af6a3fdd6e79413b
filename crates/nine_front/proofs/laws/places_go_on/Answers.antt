use Rattle.nine_front.proofs.PlacedLemmas.{messages_places, messages_answered}
use Rattle.nine_front.proofs.laws.places_go_on.Goals as goal

pub returns-clause-places : goal.returns-clause-places
returns-clause-places g c = λ p history start from messages replies end to given. messages_places (g.C.TurnClock.gives c.args.clock.now) p history start from messages replies end to given

pub returns-clause-answered : goal.returns-clause-answered
returns-clause-answered g c = λ p history start from messages replies end to given. messages_answered (g.C.TurnClock.gives c.args.clock.now) p history start from messages replies end to given
