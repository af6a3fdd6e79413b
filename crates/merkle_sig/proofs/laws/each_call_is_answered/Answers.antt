use Rattle.merkle_sig.proofs.SignerLemmas.{answered}
use Rattle.merkle_sig.proofs.laws.each_call_is_answered.Goals as goal

pub returns : goal.returns
returns c = answered
