use Rattle.bl_rules.proofs.SequentExamples.{weak_claim}
use Rattle.bl_rules.proofs.laws.a_weak_claim_does_not_count.Goals as goal

pub returns : goal.returns
returns c = weak_claim
