use Rattle.access_history.proofs.LawfulLemmas.{IsWorld-lawful}
use Rattle.access_history.proofs.laws.histories_keep_worlds.Goals as goal

pub returns : goal.returns
returns c = IsWorld-lawful
