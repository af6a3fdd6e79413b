use Rattle.access_history.proofs.GoneLemmas.{gone_denied}
use Rattle.access_history.proofs.laws.gone_grants_are_denied.Goals as goal

pub returns : goal.returns
returns c = gone_denied
