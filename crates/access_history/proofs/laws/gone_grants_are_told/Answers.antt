use Rattle.access_history.proofs.GoneLemmas.{gone_told}
use Rattle.access_history.proofs.laws.gone_grants_are_told.Goals as goal

pub returns : goal.returns
returns c = gone_told
