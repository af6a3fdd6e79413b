-- A text is read in one way.
use Rattle.proof_text.proofs.TextLemmas.{proof_once}
use Rattle.proof_text.proofs.laws.one_proof.Goals as goal

pub returns : goal.returns
returns c = λ text p q h k. proof_once h k
