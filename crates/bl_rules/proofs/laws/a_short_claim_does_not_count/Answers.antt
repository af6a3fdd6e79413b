use Rattle.bl_rules.proofs.SequentExamples.{late_claim, short_claim}
use Rattle.bl_rules.proofs.laws.a_short_claim_does_not_count.Goals as goal

pub returns : goal.returns
returns c = record { late = late_claim; early = short_claim }
