use Rattle.bl_rules.proofs.RicherLemmas.{Derivable-true}
use Rattle.bl_rules.proofs.laws.a_true_constraint_can_be_left_out.Goals as goal

pub returns : goal.returns
returns c = Derivable-true
