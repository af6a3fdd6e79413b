use Rattle.bl_rules.proofs.SoundGrantLemmas.{Allows-more}
use Rattle.bl_rules.proofs.laws.more_statements_allow_no_less.Goals as goal

pub returns : goal.returns
returns c = Allows-more
