use Rattle.bl_rules.proofs.DirectGrantLemmas.{SoundGrant-granted_by}
use Rattle.bl_rules.proofs.laws.a_statement_grants_on_its_interval.Goals as goal

pub returns : goal.returns
returns c = SoundGrant-granted_by
