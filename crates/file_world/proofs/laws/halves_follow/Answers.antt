use Rattle.file_world.proofs.LawLemmas.{halves_follow}
use Rattle.file_world.proofs.laws.halves_follow.Goals as goal

pub returns : goal.returns
returns c = halves_follow
