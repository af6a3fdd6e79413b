use Rattle.nine_front.proofs.ConnectionLemmas.{Speaks-placed, Speaks-known}
use Rattle.nine_front.proofs.laws.connections_are_placed.Goals as goal

pub returns-clause-placed : goal.returns-clause-placed
returns-clause-placed g c = λ nonce opening old new messages replies has s. Speaks-placed g.D.Disk.faults (g.C.TurnClock.gives c.args.clock.now) nonce opening old new messages replies has s

pub returns-clause-known : goal.returns-clause-known
returns-clause-known g c = λ nonce old new messages replies s some. Speaks-known g.D.Disk.faults (g.C.TurnClock.gives c.args.clock.now) nonce old new messages replies s some
