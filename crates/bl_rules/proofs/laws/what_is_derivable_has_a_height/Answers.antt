use Rattle.bl_rules.proofs.HeightLemmas.{Derivable-by_height}
use Rattle.bl_rules.proofs.laws.what_is_derivable_has_a_height.Goals as goal

pub returns : goal.returns
returns c = Derivable-by_height
