use Rattle.access_history.proofs.ForGoodLemmas.{withdrawn_for_good}
use Rattle.access_history.proofs.laws.withdrawn_statements_stay_withdrawn.Goals as goal

pub returns : goal.returns
returns c = withdrawn_for_good
