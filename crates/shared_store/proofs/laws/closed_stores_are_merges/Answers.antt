use Rattle.shared_store.proofs.MergedLemmas.{closed_are_merged}
use Rattle.shared_store.proofs.laws.closed_stores_are_merges.Goals as goal

pub returns : goal.returns
returns g c = λ first last door is closed. closed_are_merged first last door is closed
