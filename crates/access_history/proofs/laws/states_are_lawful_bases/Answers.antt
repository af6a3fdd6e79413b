use Rattle.access_history.proofs.LawfulLemmas.{IsLawfulBase-lawful}
use Rattle.access_history.proofs.laws.states_are_lawful_bases.Goals as goal

pub returns : goal.returns
returns c = IsLawfulBase-lawful
