-- What was read is a sentence.
use Rattle.proof_text.proofs.ViableLemmas.{proof_sentence}
use Rattle.proof_text.proofs.laws.sentence_of_a_proof.Goals as goal

pub returns : goal.returns
returns c = λ text p h. proof_sentence h
