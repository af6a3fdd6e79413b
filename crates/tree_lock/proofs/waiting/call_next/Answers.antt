use Rattle.std.proofs.Common.{ℕ, rules}
use Rattle.tree_lock.proofs.StepLemmas.{signals_keeps}
use Rattle.tree_lock.proofs.waiting.call_next.Goals as goal

pub store-requires : goal.store-requires
store-requires g c = (c.requires.here, search rules, signals_keeps _ _ _ _ _ (λ (n : ℕ). 1) (search rules))
