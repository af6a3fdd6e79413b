use Rattle.tree_lock.proofs.MergeLemmas.{closed_merges}
use Rattle.tree_lock.proofs.laws.closed_histories_are_merges.Goals as goal

pub returns : goal.returns
returns g c = closed_merges
