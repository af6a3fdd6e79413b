-- A store is opened and a checkpoint of it made; or it is not opened.
use Rattle.std.proofs.Common.{refl, subst}
use Rattle.recover.specs.Opening.{IsOpened, IsNotOpened}
use Rattle.access_history.specs.History.{authority_with}
use Rattle.pcfs_top.specs.Run.{of_checkpoint}
use Rattle.pcfs_top.proofs.EndsWithLemmas.{EndsWith-checkpointed, EndsWith-unopened, EndsWith-unread}
use Rattle.pcfs_top.proofs.run.checkpoint_stored.Goals as goal

pub returns-in-Err : goal.returns-in-Err
returns-in-Err g c words left read_faults read_broken asks = EndsWith-unread g.D.Disk.clock g.D.Disk.left_since g.D.Disk.image g.D.Disk.faults words c.args.secrets.now c.args.a c.args.b (of_checkpoint asks) _ _ _ _ (record { left_stays = refl; faults_stay = refl }) refl refl

pub returns-in-Err-open_store : goal.returns-in-Err-open_store
returns-in-Err-open_store g c words left read_faults read_broken asks =
    let not_opened =
    subst (λ k. IsNotOpened g.D.Disk.clock g.D.Disk.left_since g.D.Disk.image g.D.Disk.faults c.args.a c.args.b (authority_with k c.args.secrets.now.ring) c.in-Err-open_store.fault c.in-Err-open_store.a c.in-Err-open_store.b) c.as_slice.ensures
    (subst (λ r. IsNotOpened g.D.Disk.clock g.D.Disk.left_since g.D.Disk.image g.D.Disk.faults c.args.a c.args.b (authority_with c.as_slice.result.now r) c.in-Err-open_store.fault c.in-Err-open_store.a c.in-Err-open_store.b) c.in-Ok.ensures c.in-Err-open_store.ensures.err) in
    EndsWith-unopened g.D.Disk.clock g.D.Disk.left_since g.D.Disk.image g.D.Disk.faults words c.args.secrets.now c.args.a c.args.b (of_checkpoint asks) _ _ _ _ _ c.in-Err-open_store.fault _ _ not_opened (record { left_stays = refl; faults_stay = refl }) c.write_unopened.ensures

pub returns-in-Ok-open_store : goal.returns-in-Ok-open_store
returns-in-Ok-open_store g c words left read_faults read_broken asks =
    let opened = subst (λ k. IsOpened g.D.Disk.clock g.D.Disk.left_since g.D.Disk.image g.D.Disk.faults c.args.a c.args.b k c.args.secrets.now.ring c.in-Ok-open_store.store) c.as_slice.ensures
    (subst (λ r. IsOpened g.D.Disk.clock g.D.Disk.left_since g.D.Disk.image g.D.Disk.faults c.args.a c.args.b c.as_slice.result.now r c.in-Ok-open_store.store) c.in-Ok.ensures c.in-Ok-open_store.ensures.ok) in
    let e = c.checkpoint-reply.ensures in
    EndsWith-checkpointed g.D.Disk.clock g.D.Disk.left_since g.D.Disk.image g.D.Disk.faults words c.args.secrets.now c.args.a c.args.b asks c.in-Ok-open_store.store c.lemma_is_store.ensures opened (λ d bytes told. g.met.D.Disk.image_may_stay d bytes told) 0 c.checkpoint-reply.new.self
    _ _ _ _ _ c.checkpoint-reply.result _ _
    (record {
      answer = e.answer;
      stays_ready = e.ready;
      stays_kept = e.keeps;
      stays_current = e.current;
      makes_ready = e.makes_ready;
      any_moment = e.any_moment;
      halts = e.halts;
      halts_at_rest = e.halts_at_rest;
      newest = e.newest;
      first_told = e.first_told;
      second_told = e.second_told;
      first_never_falls = e.first_never_falls;
      second_never_falls = e.second_never_falls;
    }) (record { left_stays = refl; faults_stay = refl }) c.write_checkpoint-status.ensures c.into_disks-first_after.ensures.first c.into_disks-first_after.ensures.second
