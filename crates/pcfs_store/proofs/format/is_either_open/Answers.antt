-- What was pinned stays so while the disks are read.
use Rattle.journal_core.proofs.RestsLemmas.{idle_pinned}
use Rattle.pcfs_store.proofs.format.is_either_open.Goals as goal

pub returns-clause-a_pinned : goal.returns-clause-a_pinned
returns-clause-a_pinned g c =
    idle_pinned g.D.Disk.clock g.D.Disk.left_since g.D.Disk.image c.sync_both.new.a c.peek_both.new.a
    (λ disk t u b le left. g.met.D.Disk.since_earlier disk t u b le left)
    c.in_ok-sync_both.ensures.a_pinned c.peek_both.ensures.a_time c.in_ok-found.ensures.a_same

pub returns-clause-b_pinned : goal.returns-clause-b_pinned
returns-clause-b_pinned g c =
    idle_pinned g.D.Disk.clock g.D.Disk.left_since g.D.Disk.image c.sync_both.new.b c.peek_both.new.b
    (λ disk t u b le left. g.met.D.Disk.since_earlier disk t u b le left)
    c.in_ok-sync_both.ensures.b_pinned c.peek_both.ensures.b_time c.in_ok-found.ensures.b_same
