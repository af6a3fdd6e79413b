use Rattle.proof_verifier.proofs.SoundnessVerdict.{IsGrant-verdict}
use Rattle.proof_verifier.proofs.laws.the_verdict_gives_grants_within_their_rules.Goals as goal

pub returns : goal.returns
returns c = IsGrant-verdict
