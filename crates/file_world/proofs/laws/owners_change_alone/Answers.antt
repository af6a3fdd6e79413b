use Rattle.file_world.proofs.KeepLemmas.{owners_change_alone}
use Rattle.file_world.proofs.laws.owners_change_alone.Goals as goal

pub returns : goal.returns
returns c = owners_change_alone
