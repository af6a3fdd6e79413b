use Rattle.file_world.proofs.LawLemmas.{renames_keep_the_rest}
use Rattle.file_world.proofs.laws.renames_keep_the_rest.Goals as goal

pub returns : goal.returns
returns c = renames_keep_the_rest
