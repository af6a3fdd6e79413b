use Rattle.shared_store.proofs.LookingLemmas.{looked, looked_fault}
use Rattle.shared_store.proofs.looking.look.Goals as goal

pub returns-clause-looked : goal.returns-clause-looked
returns-clause-looked g c = looked g.D.Disk.faults (g.C.TurnClock.gives c.args.clock.now) c.args.request c.args.pass.now c.turn.new.pass c.turn.result c.turn.ensures

pub returns-clause-stopped : goal.returns-clause-stopped
returns-clause-stopped g c = λ is. looked_fault g.D.Disk.faults (g.C.TurnClock.gives c.args.clock.now) c.args.request c.args.pass.now c.turn.new.pass c.turn.result c.turn.ensures is
