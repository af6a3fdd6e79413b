use Rattle.pcfs_store.proofs.SurvivalLemmas.{current_survives}
use Rattle.pcfs_store.proofs.laws.a_current_store_survives.Goals as goal

pub returns : goal.returns
returns g c = λ s first second store current is_first is_second. current_survives g.D.Disk.clock g.D.Disk.left_since g.D.Disk.image s store current first second is_first is_second
