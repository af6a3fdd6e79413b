use Rattle.shared_store.proofs.GrowingLemmas.{steps_grow, checkpoints_grow}
use Rattle.shared_store.proofs.laws.entries_grow.Goals as goal

pub returns-clause-steps : goal.returns-clause-steps
returns-clause-steps g c = λ old new pass clock request reply store stepped. steps_grow g.D.Disk.faults old new pass clock request reply store stepped

pub returns-clause-checkpoints : goal.returns-clause-checkpoints
returns-clause-checkpoints g c = λ old new pass reply store makes. checkpoints_grow g.D.Disk.faults old new pass reply store makes
