use Rattle.file_world.proofs.LawLemmas.{walks_are_long_enough}
use Rattle.file_world.proofs.laws.walks_are_long_enough.Goals as goal

pub returns : goal.returns
returns c = walks_are_long_enough
