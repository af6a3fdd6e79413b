use Rattle.bl_rules.proofs.RicherLemmas.{Derivable-in_view}
use Rattle.bl_rules.proofs.laws.a_weaker_view_keeps_what_is_derivable.Goals as goal

pub returns : goal.returns
returns c = Derivable-in_view
