use Rattle.file_world.proofs.LawLemmas.{trees_stay_trees}
use Rattle.file_world.proofs.laws.trees_stay_trees.Goals as goal

pub returns : goal.returns
returns c = trees_stay_trees
