use Rattle.pcfs_store.proofs.SurvivalLemmas.{ready_current, ready_survives_now}
use Rattle.pcfs_store.proofs.laws.a_ready_store_survives.Goals as goal

pub returns-clause-current : goal.returns-clause-current
returns-clause-current g c = λ s is_ready. ready_current g.D.Disk.clock g.D.Disk.left_since g.D.Disk.image s is_ready

pub returns-clause-now : goal.returns-clause-now
returns-clause-now g c = λ s store is_ready. ready_survives_now g.D.Disk.clock g.D.Disk.left_since g.D.Disk.image s store is_ready
