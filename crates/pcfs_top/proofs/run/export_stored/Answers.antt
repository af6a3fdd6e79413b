-- A store is opened and its events are exported; or it is not opened.
use Rattle.std.proofs.Common.{ap, refl, subst, ◌∙◌}
use Rattle.recover.specs.Opening.{IsOpened, IsNotOpened}
use Rattle.access_history.specs.History.{authority_with}
use Rattle.op_gate.specs.Decision.{GateView}
use Rattle.export_run.proofs.ExportLemmas.{TellsExport-same}
use Rattle.pcfs_top.specs.Run.{of_export}
use Rattle.pcfs_top.proofs.EndsWithLemmas.{EndsWith-exported, EndsWith-unopened, EndsWith-unread}
use Rattle.pcfs_top.proofs.run.export_stored.Goals as goal

pub returns-in-Err : goal.returns-in-Err
returns-in-Err g c words left read_faults read_broken asks = EndsWith-unread g.D.Disk.clock g.D.Disk.left_since g.D.Disk.image g.D.Disk.faults words c.args.secrets.now c.args.a c.args.b (of_export _ asks) _ _ _ _ (record { left_stays = refl; faults_stay = refl }) refl refl

pub returns-in-Err-open_store : goal.returns-in-Err-open_store
returns-in-Err-open_store g c words left read_faults read_broken asks =
    let not_opened =
    subst (λ k. IsNotOpened g.D.Disk.clock g.D.Disk.left_since g.D.Disk.image g.D.Disk.faults c.args.a c.args.b (authority_with k c.args.secrets.now.ring) c.in-Err-open_store.fault c.in-Err-open_store.a c.in-Err-open_store.b) c.as_slice.ensures
    (subst (λ r. IsNotOpened g.D.Disk.clock g.D.Disk.left_since g.D.Disk.image g.D.Disk.faults c.args.a c.args.b (authority_with c.as_slice.result.now r) c.in-Err-open_store.fault c.in-Err-open_store.a c.in-Err-open_store.b) c.in-Ok.ensures c.in-Err-open_store.ensures.err) in
    EndsWith-unopened g.D.Disk.clock g.D.Disk.left_since g.D.Disk.image g.D.Disk.faults words c.args.secrets.now c.args.a c.args.b (of_export _ asks) _ _ _ _ _ c.in-Err-open_store.fault _ _ not_opened (record { left_stays = refl; faults_stay = refl }) c.write_unopened.ensures

pub returns-in-Ok-open_store : goal.returns-in-Ok-open_store
returns-in-Ok-open_store g c words left read_faults read_broken asks =
    let opened = subst (λ k. IsOpened g.D.Disk.clock g.D.Disk.left_since g.D.Disk.image g.D.Disk.faults c.args.a c.args.b k c.args.secrets.now.ring c.in-Ok-open_store.store) c.as_slice.ensures
    (subst (λ r. IsOpened g.D.Disk.clock g.D.Disk.left_since g.D.Disk.image g.D.Disk.faults c.args.a c.args.b c.as_slice.result.now r c.in-Ok-open_store.store) c.in-Ok.ensures c.in-Ok-open_store.ensures.ok) in
    let tells = TellsExport-same _ _ _ _ _ _ _ _ _ _ _ (c.history.ensures.base ∙ ap (λ (v : GateView). v.base) c.gate.ensures) (c.history.ensures.events ∙ ap (λ (v : GateView). v.events) c.gate.ensures) c.export_history-status.ensures in
    EndsWith-exported g.D.Disk.clock g.D.Disk.left_since g.D.Disk.image g.D.Disk.faults words c.args.secrets.now c.args.a c.args.b (of_export _ asks) _ _ _ _ _ _ c.in-Ok-open_store.store _ _ asks c.lemma_is_store.ensures opened tells
    (record { left_stays = refl; faults_stay = refl })
    c.into_disks-first.ensures.first c.into_disks-first.ensures.second
