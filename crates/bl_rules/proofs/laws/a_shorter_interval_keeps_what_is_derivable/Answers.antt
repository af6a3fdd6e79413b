use Rattle.bl_rules.proofs.RicherLemmas.{Derivable-within}
use Rattle.bl_rules.proofs.laws.a_shorter_interval_keeps_what_is_derivable.Goals as goal

pub returns : goal.returns
returns c = Derivable-within
