use Rattle.access_history.proofs.AnswerLemmas.{admitted_kept}
use Rattle.access_history.proofs.laws.admitted_operations_are_kept.Goals as goal

pub returns : goal.returns
returns c = admitted_kept
