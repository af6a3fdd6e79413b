use Rattle.access_history.proofs.AnswerableLemmas.{has_answer}
use Rattle.access_history.proofs.laws.requests_have_answers.Goals as goal

pub returns : goal.returns
returns c = has_answer
