-- Each test in its order.
use Rattle.std.proofs.Common.{◌+◌, ◌<◌, ◌≤◌, ℕ, sym, subst, arith}
use Rattle.pcfs_store.proofs.EndLemmas.{is_some_from}
use Rattle.follower.specs.declared.taking.Taken.TheVariants.{Missing}
use Rattle.follower.specs.Taking.{Taking, last_number, next_number}
use Rattle.follower.proofs.TakingLemmas.{runs_from, stopped_before, was_known, is_missing}
use Rattle.follower.proofs.taking.try_take.Goals as goal

pub returns-then-is_stopped : goal.returns-then-is_stopped
returns-then-is_stopped g c =
    let earlier = is_some_from c.args.store.now.stop (c.is_stopped.ensures.0 c.if-is_stopped.true) in
    stopped_before g.D.Disk.clock g.D.Disk.left_since g.D.Disk.image g.D.Disk.faults c.args.store.now c.args.number c.args.payload.now earlier.0 c.lemma_is_store.ensures earlier.1

pub returns-then-number-last : goal.returns-then-number-last
returns-then-number-last g c =
    let few : c.args.number ≤ last_number c.args.store.now = omega (arith, c.if-number-last.true, c.last_number-last.ensures.value) in
    was_known g.D.Disk.clock g.D.Disk.left_since g.D.Disk.image g.D.Disk.faults c.args.store.now c.args.number c.args.payload.now c.lemma_is_store.ensures (runs_from c.args.store.now.stop c.is_stopped.result c.if-is_stopped.false c.is_stopped.ensures) few

pub returns-then-last-number : goal.returns-then-last-number
returns-then-last-number g c =
    let more : next_number c.args.store.now < c.args.number = omega (arith, c.if-last-number.true, c.last_number-last.ensures.value) in
    subst (λ (n : ℕ). Taking g.D.Disk.clock g.D.Disk.left_since g.D.Disk.image g.D.Disk.faults c.args.store.now c.args.number c.args.payload.now (Missing (n + 1)) c.args.store.now) (sym c.last_number-last.ensures.value)
    (is_missing g.D.Disk.clock g.D.Disk.left_since g.D.Disk.image g.D.Disk.faults c.args.store.now c.args.number c.args.payload.now c.lemma_is_store.ensures (runs_from c.args.store.now.stop c.is_stopped.result c.if-is_stopped.false c.is_stopped.ensures) more)
