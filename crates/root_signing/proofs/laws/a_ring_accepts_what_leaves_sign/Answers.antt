use Rattle.root_signing.proofs.LawLemmas.{accepts_signed}
use Rattle.root_signing.proofs.laws.a_ring_accepts_what_leaves_sign.Goals as goal

pub returns : goal.returns
returns c = accepts_signed
