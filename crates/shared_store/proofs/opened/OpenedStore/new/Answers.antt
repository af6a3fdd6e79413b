use Rattle.std.proofs.Common.{subst, sym}
use Rattle.shared_store.specs.GoesOn.{HasGoneOn}
use Rattle.shared_store.proofs.GoesOnLemmas.{goes_on_same}
use Rattle.shared_store.proofs.HistoryLemmas.{opened_numbers}
use Rattle.shared_store.proofs.opened.OpenedStore.new.Goals as goal

pub invariant_of-result : goal.invariant_of-result
invariant_of-result g c =
    subst (λ opening. HasGoneOn g.D.Disk.clock g.D.Disk.left_since g.D.Disk.image g.D.Disk.faults opening c.args.store) (sym c.of-opening.ensures) (goes_on_same g.D.Disk.clock g.D.Disk.left_since g.D.Disk.image g.D.Disk.faults c.args.store c.requires.running)

pub returns-clause-numbers : goal.returns-clause-numbers
returns-clause-numbers g c each none = opened_numbers c.args.store each none c.requires.running
