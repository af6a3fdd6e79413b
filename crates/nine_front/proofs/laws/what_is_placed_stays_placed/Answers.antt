use Rattle.nine_front.proofs.PlacedLemmas.{messages_longer}
use Rattle.nine_front.proofs.laws.what_is_placed_stays_placed.Goals as goal

pub returns : goal.returns
returns g c = λ p history more start from messages replies end to given. messages_longer (g.C.TurnClock.gives c.args.clock.now) p history more start from messages replies end to given
