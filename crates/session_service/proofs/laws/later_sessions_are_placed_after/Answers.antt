use Rattle.session_service.proofs.SaidLemmas.{Speaks-later}
use Rattle.session_service.proofs.laws.later_sessions_are_placed_after.Goals as goal

pub returns : goal.returns
returns g c = λ nonce opening told old new lines answers h later s. Speaks-later g.D.Disk.faults (g.C.TurnClock.gives c.args.clock.now) nonce opening told old new lines answers h later s
