use Rattle.shared_store.proofs.AskingLemmas.{asked, fault_seen}
use Rattle.shared_store.proofs.asking.ask.Goals as goal

pub returns-clause-asked : goal.returns-clause-asked
returns-clause-asked g c = asked g.D.Disk.faults (g.C.TurnClock.gives c.args.clock.now) c.args.request c.args.pass.now c.turn.new.pass c.turn.result c.turn.ensures

pub returns-clause-stopped : goal.returns-clause-stopped
returns-clause-stopped g c = λ is. fault_seen g.D.Disk.faults (g.C.TurnClock.gives c.args.clock.now) c.args.request c.args.pass.now c.turn.new.pass c.turn.result c.turn.ensures is
