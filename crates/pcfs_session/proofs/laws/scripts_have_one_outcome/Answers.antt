use Rattle.pcfs_session.proofs.ExactLemmas.{exact_outcome}
use Rattle.pcfs_session.proofs.laws.scripts_have_one_outcome.Goals as goal

pub returns : goal.returns
returns c = exact_outcome
