use Rattle.pcfs_session.proofs.LawfulRunLemmas.{runs_lawfully}
use Rattle.pcfs_session.proofs.laws.runs_are_lawful.Goals as goal

pub returns : goal.returns
returns c = runs_lawfully
