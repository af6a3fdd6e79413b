use Rattle.pcfs_store.proofs.EntryLemmas.{full_or_without_memory}
use Rattle.pcfs_store.proofs.CheckpointLemmas.{full_checkpoint}
use Rattle.pcfs_store.proofs.laws.full_is_exact.Goals as goal

pub returns-clause-step : goal.returns-clause-step
returns-clause-step g c = λ old new pass clock request reply event told lawful running answers is_full steps.
    full_or_without_memory g.D.Disk.faults old new pass clock request reply event told lawful running answers is_full steps

pub returns-clause-checkpoint : goal.returns-clause-checkpoint
returns-clause-checkpoint g c = λ old new pass told running is_full makes. full_checkpoint g.D.Disk.faults old new pass told running is_full makes
