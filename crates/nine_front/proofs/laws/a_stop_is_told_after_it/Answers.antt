use Rattle.nine_front.proofs.MarkLemmas.{message_stopped}
use Rattle.nine_front.proofs.laws.a_stop_is_told_after_it.Goals as goal

pub returns : goal.returns
returns g c = λ p history s from m reply after to given. message_stopped (g.C.TurnClock.gives c.args.clock.now) p history s from m reply after to given
