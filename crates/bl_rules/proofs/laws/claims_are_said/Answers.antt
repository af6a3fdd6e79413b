use Rattle.bl_rules.proofs.SequentExamples.{claim_is_said}
use Rattle.bl_rules.proofs.laws.claims_are_said.Goals as goal

pub returns : goal.returns
returns c = claim_is_said
