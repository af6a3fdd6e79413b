use Rattle.file_world.proofs.HalvesLemmas.{halves_after}
use Rattle.file_world.proofs.laws.halves_keep_step.Goals as goal

pub returns : goal.returns
returns c = halves_after
