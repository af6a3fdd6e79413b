-- What is pinned by the sync stays so.
use Rattle.journal_core.proofs.RestsLemmas.{idle_pinned}
use Rattle.recover.proofs.DiskLemmas.{on_ok_weaker}
use Rattle.recover.proofs.newest.settled_generation.Goals as goal

pub returns-clause-pinned : goal.returns-clause-pinned
returns-clause-pinned g c =
    on_ok_weaker _ _ c.peek.result
    (idle_pinned g.D.Disk.clock g.D.Disk.left_since g.D.Disk.image c.sync.new.self c.peek.new.disk
    (λ disk t u b le left. g.met.D.Disk.since_earlier disk t u b le left) c.in_ok-sync.ensures.ok c.peek.ensures.time)
    c.peek.ensures.same
