use Rattle.bl_rules.proofs.AtMomentLemmas.{Derivable-known_at}
use Rattle.bl_rules.proofs.laws.a_moment_keeps_what_is_derivable.Goals as goal

pub returns : goal.returns
returns c = Derivable-known_at
