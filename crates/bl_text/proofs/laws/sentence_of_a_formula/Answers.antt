-- What was read is a sentence.
use Rattle.bl_text.proofs.TextSentences.{formula_spelled}
use Rattle.bl_text.proofs.laws.sentence_of_a_formula.Goals as goal

pub returns : goal.returns
returns c = λ text f h. formula_spelled h
