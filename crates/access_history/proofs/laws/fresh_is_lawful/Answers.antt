use Rattle.access_history.proofs.FreshLemmas.{IsLawfulBase-fresh}
use Rattle.access_history.proofs.laws.fresh_is_lawful.Goals as goal

pub returns : goal.returns
returns c = IsLawfulBase-fresh
