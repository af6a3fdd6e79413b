use Rattle.merkle_sig.proofs.SignerLemmas.{rises}
use Rattle.merkle_sig.proofs.laws.leaves_rise.Goals as goal

pub returns : goal.returns
returns c = rises
