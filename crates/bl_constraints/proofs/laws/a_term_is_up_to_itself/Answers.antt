use Rattle.bl_syntax.proofs.EntailmentLemmas.{Entails-itself}
use Rattle.bl_constraints.proofs.laws.a_term_is_up_to_itself.Goals as goal

pub returns : goal.returns
returns c = Entails-itself
