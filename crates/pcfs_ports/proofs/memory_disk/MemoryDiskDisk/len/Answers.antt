use Rattle.std.proofs.Common.{ap}
use Rattle.pcfs_ports.specs.MemoryDisk.{MemoryDiskView}
use Rattle.pcfs_ports.proofs.DiskLemmas.{same_idles}
use Rattle.pcfs_ports.proofs.memory_disk.MemoryDiskDisk.len.Goals as goal

pub returns-clause-time : goal.returns-clause-time
returns-clause-time c =
    same_idles c.args.self.now _ (ap (λ (s : MemoryDiskView). s.start) c.self.view_is) (ap (λ (s : MemoryDiskView). s.made) c.self.view_is)
