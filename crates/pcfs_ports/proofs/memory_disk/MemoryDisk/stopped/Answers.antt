use Rattle.std.proofs.Common.{◌≡◌, ℕ, List, sym, ap, subst, ◌∙◌}
use Rattle.pcfs_ports.specs.MemoryDisk.{MemoryDiskView, disk_clock, disk_left_since}
use Rattle.pcfs_ports.specs.Image.{ImageView}
use Rattle.pcfs_ports.specs.Stopped.{stopped_after}
use Rattle.pcfs_ports.proofs.StoppedLemmas.{stopped_may_be_left}
use Rattle.pcfs_ports.proofs.memory_disk.MemoryDisk.stopped.Goals as goal

pub returns-clause-left : goal.returns-clause-left
returns-clause-left c =
    let disk = c.args.self in
    let fill = c.args.fill in
    let kept = c.args.kept in
    let start = c.start.result.now in
    let made = c.as_slice.result.now in
    let bytes_are : c.planned.result.start ≡ stopped_after fill kept start start made =
    ap (λ (s : MemoryDiskView). s.start) c.planned.ensures ∙ ap (λ (s : ImageView). s.start) c.new-image.ensures ∙ c.in_ok-bytes.ensures in
    let start_is : start ≡ disk.start = c.start.ensures ∙ ap (λ (s : MemoryDiskView). s.start) c.self.view_is in
    let made_is : made ≡ disk.made = c.as_slice.ensures ∙ ap (λ (s : MemoryDiskView). s.made) c.self.view_is in
    let is : c.planned.result.start ≡ stopped_after fill kept disk.start disk.start disk.made =
    bytes_are ∙ ap (λ (s : List ℕ). stopped_after fill kept s s made) start_is ∙ ap (stopped_after fill kept disk.start disk.start) made_is in
    subst (λ (bytes : List ℕ). disk_left_since disk (disk_clock disk) bytes) (sym is) (stopped_may_be_left fill kept disk)
