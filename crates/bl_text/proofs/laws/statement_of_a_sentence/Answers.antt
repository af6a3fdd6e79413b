-- Each part of a sentence is read.
use Rattle.bl_text.proofs.SentenceTexts.{sentence_is_statement}
use Rattle.bl_text.proofs.laws.statement_of_a_sentence.Goals as goal

pub returns : goal.returns
returns c = λ text h. sentence_is_statement h
