use Rattle.merkle_sig.proofs.SignerLemmas.{apart}
use Rattle.merkle_sig.proofs.laws.no_leaf_is_given_twice.Goals as goal

pub returns : goal.returns
returns c = apart
