-- A text stops in one way.
use Rattle.proof_text.proofs.TextLemmas.{fault_once}
use Rattle.proof_text.proofs.laws.one_fault_of_a_proof.Goals as goal

pub returns : goal.returns
returns c = λ text e f h k. fault_once h k
