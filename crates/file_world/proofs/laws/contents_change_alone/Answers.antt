use Rattle.file_world.proofs.KeepLemmas.{contents_change_alone}
use Rattle.file_world.proofs.laws.contents_change_alone.Goals as goal

pub returns : goal.returns
returns c = contents_change_alone
