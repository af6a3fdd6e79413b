-- Each rule of the sentence is read with its fields, and then its premises.
use Rattle.proof_text.proofs.SentenceLemmas.{sentence_read}
use Rattle.proof_text.proofs.laws.text_of_a_sentence.Goals as goal

pub returns : goal.returns
returns c = λ text is. sentence_read is
