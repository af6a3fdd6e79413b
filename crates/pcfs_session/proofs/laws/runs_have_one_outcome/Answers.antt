use Rattle.pcfs_session.proofs.OneOutcomeLemmas.{one_outcome}
use Rattle.pcfs_session.proofs.laws.runs_have_one_outcome.Goals as goal

pub returns : goal.returns
returns c = one_outcome
