-- One of the outcomes of a crash of a disk in memory, which a test can ask for. This project's own.
use Rattle.std.specs.Prelude.{ℕ, ◌==◌, Bool, if◌then◌else◌, List, [], ◌∷◌, length, replicate}
use Rattle.pcfs_ports.specs.Disk.{written_after_gap}
use Rattle.pcfs_ports.specs.MemoryDisk.{MemoryDiskView, image_by}
use Rattle.pcfs_ports.specs.declared.disk_call.DiskCall.{DiskCall}
use Rattle.pcfs_ports.specs.declared.disk_call.DiskCall.TheVariants.{Wrote, Synced}

-- Below, each piece that was written and not synced is put in its place in order: `fill` for each
-- byte of one of other
-- than one byte; one of a single byte as it is if `kept`, else nothing. The gap before its place,
-- also of a byte that is
-- not kept, holds `fill`.
module _ (fill : ℕ) (kept : Bool) where
  -- what a crash puts in place of a piece that was written and not synced
  abbrev pub stopped_piece : List ℕ → List ℕ
  stopped_piece piece = if length piece == 1 then (if kept then piece else []) else replicate (length piece) fill

  -- what the crash leaves after one more of these calls, if before it a read gave this image and
  -- the crash left these
  -- bytes
  abbrev pub stopped_by : DiskCall → List ℕ → List ℕ → List ℕ
  stopped_by (Wrote at piece) image left = written_after_gap fill at (stopped_piece piece) left
  stopped_by Synced image left = image

  -- what it leaves after all of them
  abbrev pub stopped_after : List ℕ → List ℕ → List DiskCall → List ℕ
  stopped_after image left [] = left
  stopped_after image left (call ∷ calls) = stopped_after (image_by call image) (stopped_by call image left) calls

  -- what it leaves of a disk in memory now
  abbrev pub stopped_image : MemoryDiskView → List ℕ
  stopped_image disk = stopped_after disk.start disk.start disk.made
