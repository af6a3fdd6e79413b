-- A store is opened, and connections speak 9P2000 with it; or it is not opened.
use Rattle.std.proofs.Common.{refl, subst}
use Rattle.recover.specs.Opening.{IsOpened, IsNotOpened}
use Rattle.access_history.specs.History.{authority_with}
use Rattle.pcfs_run.specs.Served as serving
use Rattle.pcfs_run.proofs.ServedLemmas.{EndsServing-served, EndsServing-unopened}
use Rattle.pcfs_run.proofs.nine_serving.serve9.Goals as goal

pub returns-in-Err : goal.returns-in-Err
returns-in-Err g c left read_faults read_broken = serving.unopened (record { bytes = record { a_stays = refl; b_stays = refl }; none_failed = record { a_stands = refl; b_stands = refl } }) (record { waiting_stays = refl; faults_stay = refl; nonce_faults_stay = refl }) refl refl

pub returns-in-Err-open_store : goal.returns-in-Err-open_store
returns-in-Err-open_store g c left read_faults read_broken =
    let not_opened =
    subst (λ k. IsNotOpened g.D.Disk.clock g.D.Disk.left_since g.D.Disk.image g.D.Disk.faults c.args.a c.args.b (authority_with k c.args.secrets.now.ring) c.in-Err-open_store.fault c.in-Err-open_store.a c.in-Err-open_store.b) c.as_slice.ensures
    (subst (λ r. IsNotOpened g.D.Disk.clock g.D.Disk.left_since g.D.Disk.image g.D.Disk.faults c.args.a c.args.b (authority_with c.as_slice.result.now r) c.in-Err-open_store.fault c.in-Err-open_store.a c.in-Err-open_store.b) c.in-Ok.ensures c.in-Err-open_store.ensures.err) in
    EndsServing-unopened _ g.D.Disk.clock g.D.Disk.left_since g.D.Disk.image g.D.Disk.faults c.args.secrets.now c.args.a c.args.b _ _ _ _ _ _ _ c.in-Err-open_store.a c.in-Err-open_store.b
    (record { waiting_stays = refl; faults_stay = refl; nonce_faults_stay = refl }) c.in-Err-open_store.fault _ not_opened c.write_unopened.ensures

pub returns-in-Ok-open_store : goal.returns-in-Ok-open_store
returns-in-Ok-open_store g c left read_faults read_broken =
    let opened = subst (λ k. IsOpened g.D.Disk.clock g.D.Disk.left_since g.D.Disk.image g.D.Disk.faults c.args.a c.args.b k c.args.secrets.now.ring c.in-Ok-open_store.store) c.as_slice.ensures
    (subst (λ r. IsOpened g.D.Disk.clock g.D.Disk.left_since g.D.Disk.image g.D.Disk.faults c.args.a c.args.b c.as_slice.result.now r c.in-Ok-open_store.store) c.in-Ok.ensures c.in-Ok-open_store.ensures.ok) in
    EndsServing-served _ g.D.Disk.clock g.D.Disk.left_since g.D.Disk.image g.D.Disk.faults c.args.secrets.now c.args.a c.args.b (λ d bytes told. (g.met.D.Disk g.world.𝓛 g.world.𝓜 g.world.𝓡 ((λ s x. x), (λ x. x), (λ x. x), λ x. x)).image_may_stay d bytes told) c.in-Ok-open_store.store c.serve_nine_store-end.result.1
    c.lemma_is_store.ensures c.lemma_is_store-in-Ok-open_store.ensures opened c.serve_nine_store-end.ensures.gone_on _ _ _ _ _ _ _ c.serve_nine_store-end.result.0 _ _ _
    c.serve_nine_store-end.ensures.grown c.serve_nine_store-end.ensures.attended c.write_end-status.ensures.stopped c.write_end-status.ensures.running c.into_disks-a.ensures.first c.into_disks-a.ensures.second
