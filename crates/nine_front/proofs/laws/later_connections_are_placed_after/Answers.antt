use Rattle.nine_front.proofs.ConnectionLemmas.{Speaks-later}
use Rattle.nine_front.proofs.laws.later_connections_are_placed_after.Goals as goal

pub returns : goal.returns
returns g c = λ nonce opening told old new messages replies h later s. Speaks-later g.D.Disk.faults (g.C.TurnClock.gives c.args.clock.now) nonce opening told old new messages replies h later s
