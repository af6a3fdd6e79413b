use Rattle.access_history.proofs.AnswerLemmas.{one_answer}
use Rattle.access_history.proofs.laws.answers_are_determined.Goals as goal

pub returns : goal.returns
returns c = one_answer
