use Rattle.file_world.proofs.KeepLemmas.{truncates_keep_the_first}
use Rattle.file_world.proofs.laws.truncates_keep_the_first.Goals as goal

pub returns : goal.returns
returns c = truncates_keep_the_first
