use Rattle.proof_verifier.proofs.SoundnessVerdict.{SoundGrant-verdict}
use Rattle.proof_verifier.proofs.laws.the_verdict_gives_sound_grants.Goals as goal

pub returns : goal.returns
returns c = SoundGrant-verdict
