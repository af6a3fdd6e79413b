use Rattle.file_world.proofs.LawLemmas.{fresh_is_world}
use Rattle.file_world.proofs.laws.fresh_is_world.Goals as goal

pub returns : goal.returns
returns c = fresh_is_world
