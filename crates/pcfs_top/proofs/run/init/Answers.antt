-- A store is made, or not.
use Rattle.std.proofs.Common.{refl, subst}
use Rattle.pcfs_store.specs.Formats.{IsNewStore}
use Rattle.pcfs_top.proofs.EndsWithLemmas.{DiskLaws, EndsWith-made, EndsWith-unmade, EndsWith-unbegun, not_lost}
use Rattle.pcfs_top.proofs.run.init.Goals as goal

pub returns-in-Err : goal.returns-in-Err
returns-in-Err g c words left read_faults read_broken is = EndsWith-unbegun g.D.Disk.clock g.D.Disk.left_since g.D.Disk.image g.D.Disk.faults words c.args.secrets.now c.args.a c.args.b is _ _ _ _ (record { left_stays = refl; faults_stay = refl }) refl refl

pub returns-in-Ok-format_store : goal.returns-in-Ok-format_store
returns-in-Ok-format_store g c words left read_faults read_broken is =
    let new = subst (λ k. IsNewStore k c.args.secrets.now.ring c.in-Ok-format_store.store) c.as_slice.ensures (subst (λ r. IsNewStore c.as_slice.result.now r c.in-Ok-format_store.store) c.in-Ok.ensures c.in-Ok-format_store.ensures.new) in
    EndsWith-made g.D.Disk.clock g.D.Disk.left_since g.D.Disk.image g.D.Disk.faults words c.args.secrets.now c.args.a c.args.b is _ _ _ _ _ c.in-Ok-format_store.store _ _ new c.in-Ok-format_store.ensures.ready c.in-Ok-format_store.ensures.shut c.in-Ok-format_store.ensures.b_same c.in-Ok-format_store.ensures.a_no_fault c.in-Ok-format_store.ensures.b_no_fault c.into_disks-a.ensures.first c.into_disks-a.ensures.second
    (record { left_stays = refl; faults_stay = refl }) c.write_last_line.ensures

pub returns-in-Err-format_store : goal.returns-in-Err-format_store
returns-in-Err-format_store g c words left read_faults read_broken is =
    let laws : DiskLaws g.D.Disk.clock g.D.Disk.left_since g.D.Disk.image g.D.Disk.faults = record { may_stay = λ d bytes told. g.met.D.Disk.image_may_stay d bytes told; earlier = λ d t u bytes le was. g.met.D.Disk.since_earlier d t u bytes le was } in
    let e = c.in-Err-format_store.ensures in
    EndsWith-unmade g.D.Disk.clock g.D.Disk.left_since g.D.Disk.image g.D.Disk.faults words c.args.secrets.now c.args.a c.args.b is (record { left = left; read_faults = read_faults; held = _; write_faults = _ }) (record { left = left; read_faults = read_faults; held = _; write_faults = _ })
    (record { input = read_broken; output = _ }) (record { input = read_broken; output = _ }) _ c.in-Err-format_store.fault c.in-Err-format_store.a c.in-Err-format_store.b
    e.already e.same e.a_no_fault e.b_no_fault e.risen (not_lost g.D.Disk.clock g.D.Disk.left_since g.D.Disk.image g.D.Disk.faults words c.args.secrets.now c.args.a c.args.b is laws c.in-Err-format_store.a c.in-Err-format_store.b e.kept e.b_kept e.a_later e.b_later e.any_moment) (record { left_stays = refl; faults_stay = refl }) c.write_unmade.ensures
