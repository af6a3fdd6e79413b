use Rattle.pcfs_session.proofs.TotalLemmas.{has_outcome}
use Rattle.pcfs_session.proofs.laws.runs_have_an_outcome.Goals as goal

pub returns : goal.returns
returns c = has_outcome
