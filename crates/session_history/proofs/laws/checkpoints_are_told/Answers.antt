use Rattle.session_history.proofs.CheckpointLemmas.{checkpoints_told}
use Rattle.session_history.proofs.laws.checkpoints_are_told.Goals as goal

pub returns : goal.returns
returns g c = λ p before request reply given. checkpoints_told (g.C.TurnClock.gives c.args.clock.now) p before request reply given
