use Rattle.bl_rules.proofs.RicherLemmas.{Derivable-entailed}
use Rattle.bl_rules.proofs.laws.entailed_constraints_can_be_left_out.Goals as goal

pub returns : goal.returns
returns c = Derivable-entailed
