use Rattle.bl_rules.proofs.ModelLemmas.{Derivable-true_in_models}
use Rattle.bl_rules.proofs.laws.what_is_derivable_is_true_in_each_model.Goals as goal

pub returns : goal.returns
returns c = Derivable-true_in_models
