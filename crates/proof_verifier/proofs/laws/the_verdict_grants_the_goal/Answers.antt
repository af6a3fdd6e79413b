use Rattle.proof_verifier.proofs.SoundnessVerdict.{goal-verdict}
use Rattle.proof_verifier.proofs.laws.the_verdict_grants_the_goal.Goals as goal

pub returns : goal.returns
returns c = goal-verdict
