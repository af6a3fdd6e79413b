use Rattle.std.proofs.Common.{rules}
use Rattle.tree_lock.proofs.StepLemmas.{draws_keeps}
use Rattle.tree_lock.proofs.turn.draw.Goals as goal

pub fetch_add-requires : goal.fetch_add-requires
fetch_add-requires g c = let at = c.requires.at in (at.here, search rules, draws_keeps _ _ _ _ at.out at.number c.requires.stage)
