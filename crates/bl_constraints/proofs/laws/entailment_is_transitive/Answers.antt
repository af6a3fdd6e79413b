use Rattle.bl_syntax.proofs.EntailmentLemmas.{Entails-transitive}
use Rattle.bl_constraints.proofs.laws.entailment_is_transitive.Goals as goal

pub returns : goal.returns
returns c = Entails-transitive
