-- Each part of a sentence is read.
use Rattle.bl_text.proofs.SentenceTexts.{sentence_is_formula}
use Rattle.bl_text.proofs.laws.formula_of_a_sentence.Goals as goal

pub returns : goal.returns
returns c = λ text h. sentence_is_formula h
