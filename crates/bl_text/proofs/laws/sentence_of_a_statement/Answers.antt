-- What was read is a sentence.
use Rattle.bl_text.proofs.TextSentences.{saying_spelled}
use Rattle.bl_text.proofs.laws.sentence_of_a_statement.Goals as goal

pub returns : goal.returns
returns c = λ text s h. saying_spelled h.is_text
