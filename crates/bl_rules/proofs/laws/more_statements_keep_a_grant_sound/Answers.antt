use Rattle.bl_rules.proofs.SoundGrantLemmas.{SoundGrant-more}
use Rattle.bl_rules.proofs.laws.more_statements_keep_a_grant_sound.Goals as goal

pub returns : goal.returns
returns c = SoundGrant-more
