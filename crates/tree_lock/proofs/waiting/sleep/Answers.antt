use Rattle.std.proofs.Common.{ℕ, ◌+◌, ◌-◌, ◌^◌, ◌%◌, rules}
use Rattle.tree_lock.proofs.StepLemmas.{signals_keeps}
use Rattle.tree_lock.proofs.waiting.sleep.Goals as goal

pub fetch_add-requires : goal.fetch_add-requires
fetch_add-requires g c = (c.requires.here, search rules, signals_keeps _ _ _ _ _ (λ (n : ℕ). (n + 1) % 2 ^ 64) (search rules))

pub fetch_sub-requires : goal.fetch_sub-requires
fetch_sub-requires g c = (search rules, search rules, signals_keeps _ _ _ _ _ (λ (n : ℕ). (n + (2 ^ 64 - 1)) % 2 ^ 64) (search rules))
