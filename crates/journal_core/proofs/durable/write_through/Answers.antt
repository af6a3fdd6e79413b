use Rattle.pcfs_ports.specs.Disk.{Torn}
use Rattle.journal_core.proofs.RestsLemmas.{written_leaves, idle_leaves}
use Rattle.journal_core.proofs.durable.write_through.Goals as goal

pub returns-in_err-write_at-clause-any_moment : goal.returns-in_err-write_at-clause-any_moment
returns-in_err-write_at-clause-any_moment g c bytes told pinned =
    written_leaves g.D.Disk.clock g.D.Disk.left_since g.D.Disk.image c.args.disk.now c.write_at.new.self c.args.at c.args.piece.now bytes told pinned
    c.write_at.ensures.time c.write_at.ensures.torn

pub returns-in_err-sync-clause-any_moment : goal.returns-in_err-sync-clause-any_moment
returns-in_err-sync-clause-any_moment g c bytes told pinned =
    idle_leaves g.D.Disk.clock g.D.Disk.left_since c.args.disk.now c.write_at.new.self c.sync.new.self (Torn c.args.at c.args.piece.now bytes)
    (written_leaves g.D.Disk.clock g.D.Disk.left_since g.D.Disk.image c.args.disk.now c.write_at.new.self c.args.at c.args.piece.now bytes told pinned
    c.write_at.ensures.time c.write_at.ensures.torn)
    c.sync.ensures.time

pub returns-clause-any_moment : goal.returns-clause-any_moment
returns-clause-any_moment g c bytes told pinned =
    idle_leaves g.D.Disk.clock g.D.Disk.left_since c.args.disk.now c.write_at.new.self c.sync.new.self (Torn c.args.at c.args.piece.now bytes)
    (written_leaves g.D.Disk.clock g.D.Disk.left_since g.D.Disk.image c.args.disk.now c.write_at.new.self c.args.at c.args.piece.now bytes told pinned
    c.write_at.ensures.time c.write_at.ensures.torn)
    c.sync.ensures.time
