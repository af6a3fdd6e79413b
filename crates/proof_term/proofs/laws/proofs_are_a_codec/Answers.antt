use Rattle.proof_term.proofs.CodecLemmas.{proofs_codec}
use Rattle.proof_term.proofs.laws.proofs_are_a_codec.Goals as goal

pub returns : goal.returns
returns c = proofs_codec
