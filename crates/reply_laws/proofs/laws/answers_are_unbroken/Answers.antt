use Rattle.reply_laws.proofs.AnswerLemmas.{answer_unbroken, lawful_answer}
use Rattle.reply_laws.proofs.laws.answers_are_unbroken.Goals as goal

pub returns : goal.returns
returns c = record { unbroken = answer_unbroken; written = lawful_answer }
