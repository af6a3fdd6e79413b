use Rattle.std.proofs.Common.{rules}
use Rattle.tree_lock.proofs.StepLemmas.{tells_keeps}
use Rattle.tree_lock.proofs.TurnLemmas.{telling}
use Rattle.tree_lock.proofs.turn.show_entries.Goals as goal

pub load-requires : goal.load-requires
load-requires g c = let h = c.requires.1 in (h.at.here, search rules, tells_keeps _ _ _ _ _ c.requires.0 h.held h.at.out h.at.number h.stage c.requires.2)

pub returns : goal.returns
returns g c =
    let told = telling g.V.Recorded.entries _ c.args.seat.now c.load.new.seat c.requires.0 c.requires.1 c.load.ensures.0 c.load.ensures.2 in
    (c.requires.0, told.0, told.1, told.2, told.3)
