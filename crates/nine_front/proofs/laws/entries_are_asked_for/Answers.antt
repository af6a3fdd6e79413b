use Rattle.nine_front.proofs.AskedLemmas.{entries_asked}
use Rattle.nine_front.proofs.laws.entries_are_asked_for.Goals as goal

pub returns : goal.returns
returns g c = λ p history start from messages replies end to given placed. entries_asked (g.C.TurnClock.gives c.args.clock.now) p history start from messages replies end to given placed
