-- What the ports of a run tell at one moment (this project's own).
use Rattle.std.specs.Prelude.{◌≡◌, ◌⊎◌, ℕ, List, Bool, Option, Some}
use Rattle.pcfs_ports.specs.Faults.{HasRisen}
use Rattle.pcfs_session.specs.Streams.{Streams, streams_of}
use Rattle.pcfs_tools.specs.Broken.{Broken, broken_of}

-- the bytes of the two disks, if they are told; and how many faults each has had
pub record Disks : Type 0 where
  pub a : Option (List ℕ)
  pub b : Option (List ℕ)
  pub a_faults : ℕ
  pub b_faults : ℕ

-- the streams, whether the last call of each failed, and the disks
pub record Ports : Type 0 where
  pub streams : Streams
  pub broken : Broken
  pub disks : Disks

-- nothing was taken of an input, and no call of it failed
pub record IsInputKept (before after : Streams) : Type 0 where
  pub left_stays : after.left ≡ before.left
  pub faults_stay : after.read_faults ≡ before.read_faults

-- what is said of the bytes of both disks, if they are told
abbrev pub IfTold : Disks → (List ℕ → List ℕ → Type 0) → Type 0
IfTold disks P = (x y : List ℕ) → disks.a ≡ Some x → disks.b ≡ Some y → P x y

-- a count of faults of one of the disks rose
abbrev pub HasDiskFailed : Disks → Disks → Type 0
HasDiskFailed before after = HasRisen before.a_faults after.a_faults ⊎
    HasRisen before.b_faults after.b_faults

-- no call of a disk failed: both counts of faults stand
pub record NoDiskFailed (before after : Disks) : Type 0 where
  pub a_stands : after.a_faults ≡ before.a_faults
  pub b_stands : after.b_faults ≡ before.b_faults

-- the bytes are as they were
pub record AreBytesKept (before after : Disks) : Type 0 where
  pub a_stays : after.a ≡ before.a
  pub b_stays : after.b ≡ before.b

-- the bytes are as they were, and no call of a disk failed
pub record AreDisksKept (before after : Disks) : Type 0 where
  pub bytes : AreBytesKept before after
  pub none_failed : NoDiskFailed before after

-- whether nothing is pending on the disks, before and after
pub record Rests : Type 1 where
  pub before : Type 0
  pub after : Type 0

-- what these two disks tell, by what each tells of itself
abbrev pub disks_of : {D : Type 0} → (D → Option (List ℕ)) → (D → ℕ) → D → D → Disks
disks_of image faults a b = record { a = image a; b = image b; a_faults = faults a; b_faults = faults b }

-- what these streams and disks tell
abbrev pub ports_of : {I O D : Type 0} → (I → Option (List ℕ)) → (I → ℕ) → (I → Bool) →
    (O → Option (List ℕ)) → (O → ℕ) → (O → Bool) → (D → Option (List ℕ)) → (D → ℕ) → I → O → D → D →
    Ports
ports_of left read_faults read_broken held write_faults write_broken image faults input output a b = record {
  streams = streams_of left read_faults held write_faults input output;
  broken = broken_of read_broken write_broken input output;
  disks = disks_of image faults a b;
}

-- what an output and two disks tell beside an input that tells this
abbrev pub ports_beside : {O D : Type 0} → Option (List ℕ) → ℕ → Bool → (O → Option (List ℕ)) →
    (O → ℕ)
    → (O → Bool) → (D → Option (List ℕ)) → (D → ℕ) → O → D → D → Ports
ports_beside left read_faults read_broken held write_faults write_broken image faults output a b = record {
  streams = record { left = left; read_faults = read_faults; held = held output; write_faults = write_faults output };
  broken = record { input = read_broken; output = write_broken output };
  disks = disks_of image faults a b;
}

-- whether nothing is pending on two disks before, and on two after
abbrev pub rests_of : {D : Type 0} → (D → Type 0) → D → D → D → D → Rests
rests_of rests a b first second = record { before = rests a × rests b; after = rests first × rests second }
