-- What was read up to a fault can be completed, and each part is read again, and stops again.
use Rattle.proof_text.proofs.ExactLemmas.{exact_proof}
use Rattle.proof_text.proofs.laws.exact_fault_of_a_proof.Goals as goal

pub returns : goal.returns
returns c = λ text e h. exact_proof h
