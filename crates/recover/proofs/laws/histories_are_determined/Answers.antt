use Rattle.recover.proofs.LawLemmas.{one_history}
use Rattle.recover.proofs.laws.histories_are_determined.Goals as goal

pub returns : goal.returns
returns c = one_history
