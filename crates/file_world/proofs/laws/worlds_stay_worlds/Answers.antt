use Rattle.file_world.proofs.HalvesLemmas.{IsWorld-after}
use Rattle.file_world.proofs.laws.worlds_stay_worlds.Goals as goal

pub returns : goal.returns
returns c = IsWorld-after
