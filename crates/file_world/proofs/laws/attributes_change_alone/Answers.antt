use Rattle.file_world.proofs.KeepLemmas.{attributes_change_alone}
use Rattle.file_world.proofs.laws.attributes_change_alone.Goals as goal

pub returns : goal.returns
returns c = attributes_change_alone
