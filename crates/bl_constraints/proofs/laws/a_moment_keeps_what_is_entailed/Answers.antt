use Rattle.bl_syntax.proofs.EntailmentLemmas.{Entails-at}
use Rattle.bl_constraints.proofs.laws.a_moment_keeps_what_is_entailed.Goals as goal

pub returns : goal.returns
returns c = Entails-at
