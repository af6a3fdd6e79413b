use Rattle.bl_syntax.proofs.EntailmentLemmas.{Entails-true}
use Rattle.bl_constraints.proofs.laws.what_is_entailed_is_true.Goals as goal

pub returns : goal.returns
returns c = Entails-true
