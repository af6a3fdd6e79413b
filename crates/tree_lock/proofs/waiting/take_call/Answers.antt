use Rattle.std.proofs.Common.{ℕ, rules}
use Rattle.tree_lock.proofs.StepLemmas.{signals_keeps}
use Rattle.tree_lock.proofs.waiting.take_call.Goals as goal

pub swap-requires : goal.swap-requires
swap-requires g c = (c.requires.here, search rules, signals_keeps _ _ _ _ _ (λ (n : ℕ). 0) (search rules))
