-- What is read to its end does not stop.
use Rattle.proof_text.proofs.TextLemmas.{proof_or_fault}
use Rattle.proof_text.proofs.laws.no_fault_of_a_proof.Goals as goal

pub returns : goal.returns
returns c = λ text p e h k. proof_or_fault h k
