-- What the disks tell of their faults at the end of a run (this project's own).
use Rattle.std.specs.Prelude.{◌≡◌, ◌⊎◌, ℕ, List, String}
use Rattle.std.specs.declared.alloc.Global.{Global}
use Rattle.pcfs_secrets.specs.declared.secrets.Secrets.{Secrets}
use Rattle.pcfs_top.specs.Ports.{Disks, HasDiskFailed, NoDiskFailed}
use Rattle.pcfs_run.specs.Passes.{PassEntries}
use Rattle.pcfs_run.specs.Served.{RunEnds}
use Rattle.pcfs_run.specs.Healthy.{Moment, ports_at, rests_between}

-- A status with which a run ends of which a call of a disk failed: 5; or 7, with which a run ends
-- if the output failed.
abbrev pub IsFaultStatus : ℕ → Type 0
IsFaultStatus status = (status ≡ 5) ⊎ (status ≡ 7)

-- no call of a disk failed; or a count of faults rose, and the status is such a one
abbrev pub DisksAt : Disks → Disks → ℕ → Type 0
DisksAt before after status = NoDiskFailed before after ⊎
    (HasDiskFailed before after × IsFaultStatus status)

-- so it is at the end of each run: so at each other status, also at 9, no call of a disk failed
abbrev pub DisksFailAtFewEnds : {D L : Type 0} → PassEntries → PassEntries → (D → Type 0) →
    (L → Type 0) → Type 0
DisksFailAtFewEnds {D} {L} of_session of_nine pinned over = (secrets : Secrets) (words : List (String Global))
    (before after : Moment D L) (status : ℕ) →
    RunEnds of_session of_nine secrets words (rests_between pinned before after)
    (ports_at over before) (ports_at over after) status →
    DisksAt before.ports.disks after.ports.disks status
