use Rattle.bl_syntax.proofs.EntailmentLemmas.{Entails-entailed}
use Rattle.bl_constraints.proofs.laws.entailed_constraints_can_be_left_out.Goals as goal

pub returns : goal.returns
returns c = Entails-entailed
