use Rattle.access_history.proofs.GoneLemmas.{named_told}
use Rattle.access_history.proofs.laws.named_grants_are_gone_by_their_names.Goals as goal

pub returns : goal.returns
returns c = named_told
