use Rattle.session_service.proofs.SaidLemmas.{Speaks-placed}
use Rattle.session_service.proofs.laws.sessions_are_placed.Goals as goal

pub returns : goal.returns
returns g c = λ nonce opening old new lines answers has s. Speaks-placed g.D.Disk.faults (g.C.TurnClock.gives c.args.clock.now) nonce opening old new lines answers has s
