use Rattle.pcfs_session.proofs.LawfulRunLemmas.{IsLawfulStanding-fresh}
use Rattle.pcfs_session.proofs.laws.fresh_starts_are_lawful.Goals as goal

pub returns : goal.returns
returns c = IsLawfulStanding-fresh
