-- Disks at rest, and what a crash may leave of them while a record is added. This project's own.
use Rattle.std.specs.Prelude.{◌≡◌, ◌⊎◌, ℕ, List, ◌++◌, Option, Some}
use Rattle.pcfs_ports.specs.Disk.{IsPinned}
use Rattle.journal_core.specs.Area.{IsShut, Closed, record_bytes}

-- A disk is at rest after a body: it tells that its image is this body and a closed gate, and
-- nothing is pending.
pub record Rests {D : Type 0} (clock : D → ℕ) (left_since : D → ℕ → List ℕ → Type 0) (image : D → Option (List ℕ)) (disk : D) (body : List ℕ) : Type 0 where
  pub bytes : List ℕ
  pub told : image disk ≡ Some bytes
  pub closed : Closed body bytes
  pub pinned : IsPinned clock left_since image disk

-- the area with the records of a body, or with one record more
abbrev pub IsWithOrWithout : List ℕ → List ℕ → List ℕ → Type 0
IsWithOrWithout body payload bytes = Closed body bytes ⊎ Closed (body ++ record_bytes payload) bytes

-- the area as it was, or none that is open, or the new one
abbrev pub IsOldOrShutOrNew : List ℕ → List ℕ → List ℕ → Type 0
IsOldOrShutOrNew old new bytes = (bytes ≡ old) ⊎ (IsShut bytes ⊎ Closed new bytes)
