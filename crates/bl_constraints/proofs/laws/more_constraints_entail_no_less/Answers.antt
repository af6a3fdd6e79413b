use Rattle.bl_syntax.proofs.EntailmentLemmas.{Entails-more}
use Rattle.bl_constraints.proofs.laws.more_constraints_entail_no_less.Goals as goal

pub returns : goal.returns
returns c = Entails-more
