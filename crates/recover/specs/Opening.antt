-- What the opening of a store finds and reports (this project's own).
use Rattle.std.specs.Prelude.{◌≡◌, ◌≢◌, ◌⊎◌, ◌<◌, ◌≤◌, ℕ, List, [], length, Option, Some, None, is_some}
use Rattle.std.specs.List.{AllByRecursion}
use Rattle.pcfs_ports.specs.Disk.{IsPinned, Idles}
use Rattle.pcfs_ports.specs.Faults.{HasRisen}
use Rattle.policy_statement.specs.Ring.{KeyView}
use Rattle.journal_core.specs.Area.{area_bytes, IsBroken, IsGeneration, IsShut}
use Rattle.journal_core.specs.declared.scan.ScanFault.{ScanFault}
use Rattle.journal_core.specs.declared.scan.ScanFault.TheVariants as scans
use Rattle.journal_records.specs.declared.event.Event.{Event}
use Rattle.access_history.specs.Authority.{Authority}
use Rattle.access_history.specs.Base.{BaseView}
use Rattle.access_history.specs.History.{authority_with}
use Rattle.access_history.specs.Lawful.{IsLawful}
use Rattle.journal_records.specs.EventSpelling.{IsReadEvent}
use Rattle.op_gate.specs.declared.damage.Damage.{Damage}
use Rattle.op_gate.specs.declared.damage.Damage.TheVariants.{Header}
use Rattle.op_gate.specs.Decision.{GateView}
use Rattle.checkpoint.specs.Reading.{IsImageOf}
use Rattle.pcfs_store.specs.Newest.{newest}
use Rattle.pcfs_store.specs.Ready.{IsReady, IsCurrent}
use Rattle.pcfs_store.specs.StoredHistory.{payloads_of, StandsFor}
use Rattle.pcfs_store.specs.StoreView.{StoreView, first_disk, second_disk}
use Rattle.recover.specs.declared.fault.OpenFault.{OpenFault}
use Rattle.recover.specs.declared.fault.OpenFault.TheVariants.{NoStore, Damaged, Disk, NoMemory}
use Rattle.recover.specs.AreaDamage.{IsDamagedArea}

-- ---- two disks' bytes

-- The history is that of the newest area, which begins with this image: its bytes stand for it, its
-- events have pass 0, and it is lawful under that authority.
pub record IsNewestHistory (authority : Authority) (generation : ℕ) (image : List ℕ)
    (base : BaseView) (events : List Event) (first second : List ℕ) : Type 0 where
  pub bytes : List ℕ
  pub counts : newest first second ≡ Some bytes
  pub stands : StandsFor bytes generation base events
  pub image_is : stands.image ≡ image
  pub each : AllByRecursion IsReadEvent events
  pub lawful : IsLawful authority base events

-- The newest area has this first damage.
pub record IsNewestDamaged (authority : Authority) (number : ℕ) (damage : Damage) (first second : List ℕ) : Type 0 where
  pub bytes : List ℕ
  pub counts : newest first second ≡ Some bytes
  pub damaged : IsDamagedArea authority bytes number damage

-- The area with this image, the records of these events and its closed gate: the newest bytes go on
-- after the records.
pub record IsNewestClosed (generation : ℕ) (image : List ℕ) (events : List Event) (first second : List ℕ) : Type 0 where
  pub bytes : List ℕ
  pub counts : newest first second ≡ Some bytes
  pub gate : length (area_bytes generation image (payloads_of events)) < length bytes

-- ---- one area

-- the gate's history is that of an area of this generation, which begins with this image and ends
-- there before its closed gate
pub record HoldsArea (key : List ℕ) (ring : List KeyView) (end generation : ℕ) (image : List ℕ) (gate : GateView) : Type 0 where
  pub generated : IsGeneration generation
  pub end_is : end ≡ length (area_bytes generation image (payloads_of gate.events))
  pub key_is : gate.key ≡ key
  pub ring_is : gate.ring ≡ ring
  pub image_is : IsImageOf gate.base image
  pub idle : gate.pending ≡ None
  pub each : AllByRecursion IsReadEvent gate.events
  pub lawful : IsLawful (authority_with key ring) gate.base gate.events

-- what a scan that found no area says of the bytes
abbrev pub IsScanned : ScanFault → List ℕ → Type 0
IsScanned scans.Closed bytes = IsShut bytes
IsScanned (scans.Broken number) bytes = IsBroken number bytes
IsScanned scans.Disk bytes = Unit {0}
IsScanned scans.NoMemory bytes = Unit {0}

-- the fault of a scan of the front of an area, as the opening reports it
abbrev pub front_fault : ScanFault → OpenFault
front_fault scans.Closed = NoStore
front_fault (scans.Broken number) = Damaged number Header
front_fault scans.Disk = Disk
front_fault scans.NoMemory = NoMemory

-- why no history was found in the bytes of an area, as far as they say it
abbrev pub IsWhy : Authority → List ℕ → OpenFault → Type 0
IsWhy authority bytes NoStore = IsShut bytes
IsWhy authority bytes (Damaged number damage) = IsDamagedArea authority bytes number damage
IsWhy authority bytes Disk = Unit {0}
IsWhy authority bytes NoMemory = Unit {0}

-- ---- disks: `clock d` is the present moment of a disk d, `left_since d t bytes` says that a crash
-- at some moment since t may have left these bytes, `image d` is what a read gives, if d tells it,
-- and `faults d` its count

module _ {D : Type 0} (clock : D → ℕ) (left_since : D → ℕ → List ℕ → Type 0) (image : D → Option (List ℕ)) (faults : D → ℕ) where
  -- A disk was read and synced: a crash at any moment of it leaves only what it could leave before,
  -- and where nothing was pending, the bytes are as they were.
  pub record IsHandled (old new : D) : Type 0 where
    pub told : is_some (image new) ≡ is_some (image old)
    pub time : Idles clock left_since old new
    pub stays : IsPinned clock left_since image old → image new ≡ image old
    pub never_falls : faults old ≤ faults new

  -- The same; the bytes are as they were, nothing is pending, and no call failed.
  pub record IsRead (old new : D) : Type 0 where
    pub handled : IsHandled old new
    pub same : image new ≡ image old
    pub pinned : IsPinned clock left_since image new
    pub no_fault : faults new ≡ faults old

  -- The store has the history of the newest area on these two disks and the image with which that
  -- begins, under that key and ring, and no checkpoint since; each of its events was read, so it
  -- has no pass.
  -- It is ready if that area has its closed gate.
  pub record IsOpened (a b : D) (key : List ℕ) (ring : List KeyView) (s : StoreView D) : Type 0 where
    pub first_read : IsRead a (first_disk s)
    pub second_read : IsRead b (second_disk s)
    pub key_is : s.key ≡ key
    pub ring_is : s.ring ≡ ring
    pub unsettled : s.checkpoints ≡ []
    pub lawful : IsLawful (authority_with key ring) s.base s.events
    pub each : AllByRecursion IsReadEvent s.events
    pub running : s.stop ≡ None
    pub newest_history : (x y : List ℕ) → image a ≡ Some x → image b ≡ Some y →
        IsNewestHistory (authority_with key ring) s.generation s.opened s.base s.events x y
    pub current : (x y : List ℕ) → image a ≡ Some x → image b ≡ Some y →
        IsCurrent clock left_since image s
    pub ready : (x y : List ℕ) → image a ≡ Some x → image b ≡ Some y →
        IsNewestClosed s.generation s.opened s.events x y → IsReady clock left_since image s

  -- the cause of each fault: no area is open; the newest one is damaged; the count of a disk rose;
  -- or there was no memory
  abbrev pub HasCause : D → D → Authority → OpenFault → D → D → Type 0
  HasCause a b authority NoStore first second = (x y : List ℕ) → image a ≡ Some x →
      image b ≡ Some y → newest x y ≡ None
  HasCause a b authority (Damaged number damage) first second = (x y : List ℕ) → image a ≡ Some x →
      image b ≡ Some y → IsNewestDamaged authority number damage x y
  HasCause a b authority Disk first second = HasRisen (faults a) (faults first) ⊎
      HasRisen (faults b) (faults second)
  HasCause a b authority NoMemory first second = Unit {0}

  -- No store was opened, and the disks are given back. Only after a fault of a disk their bytes may
  -- be others; at each other end no call of a disk failed.
  pub record IsNotOpened (a b : D) (authority : Authority) (fault : OpenFault) (first second : D) : Type 0 where
    pub cause : HasCause a b authority fault first second
    pub first_handled : IsHandled a first
    pub second_handled : IsHandled b second
    pub first_same : fault ≢ Disk → image first ≡ image a
    pub second_same : fault ≢ Disk → image second ≡ image b
    pub first_no_fault : fault ≢ Disk → faults first ≡ faults a
    pub second_no_fault : fault ≢ Disk → faults second ≡ faults b
