use Rattle.merkle_sig.proofs.AcceptLemmas.{roots_accept}
use Rattle.merkle_sig.proofs.laws.roots_accept_their_leaves.Goals as goal

pub returns : goal.returns
returns c = roots_accept
