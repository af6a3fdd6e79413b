-- A store is opened, and takes the messages; or it is not opened.
use Rattle.std.proofs.Common.{refl, subst}
use Rattle.recover.specs.Opening.{IsOpened, IsNotOpened}
use Rattle.access_history.specs.History.{authority_with}
use Rattle.pcfs_top.specs.Run.{of_follow}
use Rattle.pcfs_top.proofs.EndsWithLemmas.{EndsWith-followed, EndsWith-unopened, EndsWith-unread, opened_start}
use Rattle.pcfs_top.proofs.run.follow_stored.Goals as goal

pub returns-in-Err : goal.returns-in-Err
returns-in-Err g c words is = EndsWith-unread g.D.Disk.clock g.D.Disk.left_since g.D.Disk.image g.D.Disk.faults words c.args.secrets.now c.args.a c.args.b (of_follow is) _ _ _ _ (record { left_stays = refl; faults_stay = refl }) refl refl

pub returns-in-Err-open_store : goal.returns-in-Err-open_store
returns-in-Err-open_store g c words is =
    let not_opened =
    subst (λ k. IsNotOpened g.D.Disk.clock g.D.Disk.left_since g.D.Disk.image g.D.Disk.faults c.args.a c.args.b (authority_with k c.args.secrets.now.ring) c.in-Err-open_store.fault c.in-Err-open_store.a c.in-Err-open_store.b) c.as_slice.ensures
    (subst (λ r. IsNotOpened g.D.Disk.clock g.D.Disk.left_since g.D.Disk.image g.D.Disk.faults c.args.a c.args.b (authority_with c.as_slice.result.now r) c.in-Err-open_store.fault c.in-Err-open_store.a c.in-Err-open_store.b) c.in-Ok.ensures c.in-Err-open_store.ensures.err) in
    EndsWith-unopened g.D.Disk.clock g.D.Disk.left_since g.D.Disk.image g.D.Disk.faults words c.args.secrets.now c.args.a c.args.b (of_follow is) _ _ _ _ _ c.in-Err-open_store.fault _ _ not_opened (record { left_stays = refl; faults_stay = refl }) c.write_unopened.ensures

pub follow_over-status-requires-clause-lawful : goal.follow_over-status-requires-clause-lawful
follow_over-status-requires-clause-lawful g c =
    let opened = subst (λ k. IsOpened g.D.Disk.clock g.D.Disk.left_since g.D.Disk.image g.D.Disk.faults c.args.a c.args.b k c.args.secrets.now.ring c.in-Ok-open_store.store) c.as_slice.ensures
    (subst (λ r. IsOpened g.D.Disk.clock g.D.Disk.left_since g.D.Disk.image g.D.Disk.faults c.args.a c.args.b c.as_slice.result.now r c.in-Ok-open_store.store) c.in-Ok.ensures c.in-Ok-open_store.ensures.ok) in
    opened_start g.D.Disk.clock g.D.Disk.left_since g.D.Disk.image g.D.Disk.faults c.args.secrets.now c.args.a c.args.b c.in-Ok-open_store.store opened

pub returns-in-Ok-open_store : goal.returns-in-Ok-open_store
returns-in-Ok-open_store g c words is =
    let opened = subst (λ k. IsOpened g.D.Disk.clock g.D.Disk.left_since g.D.Disk.image g.D.Disk.faults c.args.a c.args.b k c.args.secrets.now.ring c.in-Ok-open_store.store) c.as_slice.ensures
    (subst (λ r. IsOpened g.D.Disk.clock g.D.Disk.left_since g.D.Disk.image g.D.Disk.faults c.args.a c.args.b c.as_slice.result.now r c.in-Ok-open_store.store) c.in-Ok.ensures c.in-Ok-open_store.ensures.ok) in
    EndsWith-followed g.D.Disk.clock g.D.Disk.left_since g.D.Disk.image g.D.Disk.faults words c.args.secrets.now c.args.a c.args.b is (λ d bytes told. g.met.D.Disk.image_may_stay d bytes told) _ _ _ _ _ c.in-Ok-open_store.store c.follow_over-status.result.1 _ _ _
    c.lemma_is_store.ensures c.lemma_is_store-in-Ok-open_store.ensures opened c.follow_over-status.ensures c.into_disks-first.ensures.first c.into_disks-first.ensures.second
