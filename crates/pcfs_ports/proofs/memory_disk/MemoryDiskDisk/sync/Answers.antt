use Rattle.std.proofs.Common.{[], ◌∷◌, ◌++◌, sym, ap, ◌∙◌}
use Rattle.pcfs_ports.specs.MemoryDisk.{MemoryDiskView, image_after}
use Rattle.pcfs_ports.specs.declared.disk_call.DiskCall.TheVariants.{Synced}
use Rattle.pcfs_ports.proofs.DiskLemmas.{image_push, synced_image, synced_pinned, synced_idles}
use Rattle.pcfs_ports.proofs.memory_disk.MemoryDiskDisk.sync.Goals as goal

pub invariant_of-self-in-Ok : goal.invariant_of-self-in-Ok
invariant_of-self-in-Ok c =
    c.self.invariant ∙ sym (ap (image_after c.self.inside.image.start) c.in-Ok.ensures.ok ∙ image_push c.self.inside.made Synced c.self.inside.image.start)

pub returns-in-Ok-clause-ok : goal.returns-in-Ok-clause-ok
returns-in-Ok-clause-ok c =
    let next : MemoryDiskView = record c.args.self.now { start = c.self.inside.image.start; made = c.push.new.self } in
    synced_pinned c.args.self.now next (ap (λ (s : MemoryDiskView). s.start) c.self.view_is)
    (c.in-Ok.ensures.ok ∙ ap (λ (s : MemoryDiskView). s.made ++ Synced ∷ []) c.self.view_is)

pub returns-in-Ok-clause-same : goal.returns-in-Ok-clause-same
returns-in-Ok-clause-same c =
    let next : MemoryDiskView = record c.args.self.now { start = c.self.inside.image.start; made = c.push.new.self } in
    synced_image c.args.self.now next (ap (λ (s : MemoryDiskView). s.start) c.self.view_is)
    (c.in-Ok.ensures.ok ∙ ap (λ (s : MemoryDiskView). s.made ++ Synced ∷ []) c.self.view_is)

pub returns-in-Ok-clause-time : goal.returns-in-Ok-clause-time
returns-in-Ok-clause-time c =
    synced_idles c.args.self.now _ (ap (λ (s : MemoryDiskView). s.start) c.self.view_is)
    (c.in-Ok.ensures.ok ∙ ap (λ (s : MemoryDiskView). s.made ++ Synced ∷ []) c.self.view_is)
