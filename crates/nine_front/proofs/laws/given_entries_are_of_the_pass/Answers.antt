use Rattle.nine_front.proofs.PlacedLemmas.{messages_given}
use Rattle.nine_front.proofs.laws.given_entries_are_of_the_pass.Goals as goal

pub returns : goal.returns
returns g c = λ p history start from messages replies end to given. messages_given (g.C.TurnClock.gives c.args.clock.now) p history start from messages replies end to given
