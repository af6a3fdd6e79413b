use Rattle.std.proofs.Common.{rules}
use Rattle.tree_lock.proofs.StepLemmas.{serves_keeps}
use Rattle.tree_lock.proofs.turn.serve.Goals as goal

pub fetch_add-requires : goal.fetch_add-requires
fetch_add-requires g c = let h = c.requires.1 in (h.at.here, search rules, serves_keeps _ _ _ _ _ c.requires.0 h.held h.at.out h.at.number h.stage c.requires.2)
