use Rattle.std.proofs.Common.{sym, ◌∙◌}
use Rattle.pcfs_store.proofs.PlacingLemmas.{stopped_end, last_end, unwritten_end}
use Rattle.pcfs_store.proofs.store.Store.try_checkpoint.Goals as goal

pub returns-then-is_some : goal.returns-then-is_some
returns-then-is_some g c =
    stopped_end g.D.Disk.clock g.D.Disk.left_since g.D.Disk.image g.D.Disk.faults c.self.inside.active c.self.inside.other c.self.inside.second_active c.self.inside.generation c.self.inside.opened.value c.self.inside.gate c.self.inside.checkpoints.items c.self.inside.stop c.self.invariant c.args.self.now c.self.view_is c.args.pass
    (sym c.is_some.ensures ∙ c.if-is_some.true)

pub returns-then-self-ge-MOST_EVENTS : goal.returns-then-self-ge-MOST_EVENTS
returns-then-self-ge-MOST_EVENTS g c =
    last_end g.D.Disk.clock g.D.Disk.left_since g.D.Disk.image g.D.Disk.faults c.self.inside.active c.self.inside.other c.self.inside.second_active c.self.inside.generation c.self.inside.opened.value c.self.inside.gate c.self.inside.checkpoints.items c.self.inside.stop c.self.invariant c.args.self.now c.self.view_is c.args.pass
    (sym c.is_some.ensures ∙ c.if-is_some.false) c.if-self-ge-MOST_EVENTS.true

pub returns-in-Err : goal.returns-in-Err
returns-in-Err g c =
    unwritten_end g.D.Disk.clock g.D.Disk.left_since g.D.Disk.image g.D.Disk.faults c.self.inside.active c.self.inside.other c.self.inside.second_active c.self.inside.generation c.self.inside.opened.value c.self.inside.gate c.self.inside.checkpoints.items c.self.inside.stop c.self.invariant c.args.self.now c.self.view_is c.args.pass
    (sym c.is_some.ensures ∙ c.if-is_some.false)
