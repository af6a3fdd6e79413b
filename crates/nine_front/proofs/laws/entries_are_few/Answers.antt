use Rattle.nine_front.proofs.FewLemmas.{messages_few}
use Rattle.nine_front.proofs.laws.entries_are_few.Goals as goal

pub returns : goal.returns
returns g c = λ p history start from messages replies end to given all. messages_few (g.C.TurnClock.gives c.args.clock.now) p history start from messages replies end to given all
