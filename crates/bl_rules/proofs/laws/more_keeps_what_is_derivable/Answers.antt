use Rattle.bl_rules.proofs.RicherLemmas.{Derivable-more}
use Rattle.bl_rules.proofs.laws.more_keeps_what_is_derivable.Goals as goal

pub returns : goal.returns
returns c = Derivable-more
