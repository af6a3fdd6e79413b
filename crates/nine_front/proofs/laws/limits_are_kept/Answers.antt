use Rattle.nine_front.proofs.LimitLemmas.{within_message}
use Rattle.nine_front.proofs.laws.limits_are_kept.Goals as goal

pub returns : goal.returns
returns g c = λ p history s from m reply after to given. within_message (g.C.TurnClock.gives c.args.clock.now) p history s from m reply after to given
