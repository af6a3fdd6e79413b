-- What a disk in memory is seen as. This project's own.
use Rattle.std.specs.Prelude.{◌≡◌, ℕ, ◌≤◌, List, [], ◌∷◌, ◌++◌, length, take, Option, Some}
use Rattle.pcfs_ports.specs.Faults.{raise}
use Rattle.pcfs_ports.specs.Calls.{CallPlanView, after_call, after_failed_call}
use Rattle.pcfs_ports.specs.Disk.{written, TornFrom}
use Rattle.pcfs_ports.specs.declared.disk_call.DiskCall.{DiskCall}
use Rattle.pcfs_ports.specs.declared.disk_call.DiskCall.TheVariants.{Wrote, Synced}

pub record MemoryDiskView : Type 0 where
  -- the bytes that it began with
  pub start : List ℕ
  -- the writes and syncs that were done, the oldest first
  pub made : List DiskCall
  pub calls : CallPlanView
  -- how many growths were refused
  pub refused : ℕ

-- what a read gives after one more of these calls
abbrev pub image_by : DiskCall → List ℕ → List ℕ
image_by (Wrote at piece) image = written at piece image
image_by Synced image = image

-- what a read gives after all of them
abbrev pub image_after : List ℕ → List DiskCall → List ℕ
image_after image [] = image
image_after image (call ∷ calls) = image_after (image_by call image) calls

-- What a crash may leave after one more of these calls, if before it a read gave this image and a
-- crash might leave
-- these outcomes. A write tears each of them, and a sync leaves the image alone.
abbrev pub left_by : DiskCall → List ℕ → (List ℕ → Type 0) → List ℕ → Type 0
left_by (Wrote at piece) image outcomes = TornFrom at piece outcomes
left_by Synced image outcomes = λ bytes. bytes ≡ image

-- what a crash may leave after all of them
abbrev pub left_after : List ℕ → (List ℕ → Type 0) → List DiskCall → List ℕ → Type 0
left_after image outcomes [] = outcomes
left_after image outcomes (call ∷ calls) = left_after (image_by call image) (left_by call image outcomes) calls

-- the bytes of a disk in memory
abbrev pub disk_image : MemoryDiskView → Option (List ℕ)
disk_image disk = Some (image_after disk.start disk.made)

-- its clock counts the calls that were done
abbrev pub disk_clock : MemoryDiskView → ℕ
disk_clock disk = length disk.made

-- A crash after some of its calls, at least as many as t, may have left these bytes. It began with
-- nothing pending. A
-- crash within a call leaves what one before it or after it may leave.
abbrev pub disk_left_since : MemoryDiskView → ℕ → List ℕ → Type 0
disk_left_since disk t bytes = (done : ℕ) × (t ≤ done) × (done ≤ length disk.made) ×
    left_after disk.start (λ begun. begun ≡ disk.start) (take done disk.made) bytes

-- a disk with these bytes, all of them synced
abbrev pub new_disk : List ℕ → CallPlanView → MemoryDiskView
new_disk bytes calls = record { start = bytes; made = []; calls = calls; refused = 0 }

-- a call read
abbrev pub after_disk_read : MemoryDiskView → MemoryDiskView
after_disk_read disk = record disk { calls = after_call disk.calls }

-- a call wrote or synced
abbrev pub after_disk_call : MemoryDiskView → DiskCall → MemoryDiskView
after_disk_call disk call = record disk { made = disk.made ++ call ∷ []; calls = after_call disk.calls }

-- a call failed, as it was to
abbrev pub after_failed_disk_call : MemoryDiskView → MemoryDiskView
after_failed_disk_call disk = record disk { calls = after_failed_call disk.calls }

-- a call failed, since a growth was refused
abbrev pub after_refused_disk_call : MemoryDiskView → MemoryDiskView
after_refused_disk_call disk =
    record disk { calls = after_failed_call disk.calls; refused = raise disk.refused }
