use Rattle.tree_lock.proofs.SeenLemmas.{later_has_seen}
use Rattle.tree_lock.proofs.laws.later_passes_have_seen_it.Goals as goal

pub returns : goal.returns
returns g c = later_has_seen
