use Rattle.bl_rules.proofs.SoundGrantLemmas.{SoundGrant-from_conditions}
use Rattle.bl_rules.proofs.laws.a_derivation_under_its_conditions_makes_a_grant_sound.Goals as goal

pub returns : goal.returns
returns c = SoundGrant-from_conditions
