-- What becomes of an area that moves to the other disk of a store, with another image (this
-- project's own).
use Rattle.std.specs.Prelude.{◌≡◌, ℕ, ◌+◌, ◌<◌, ◌≤◌, List, [], ◌∷◌, ◌++◌, length, Option, Some, Result, Ok, Err, is_some}
use Rattle.std.specs.Option.{option_map}
use Rattle.pcfs_ports.specs.Faults.{HasRisen}
use Rattle.pcfs_ports.specs.Disk.{written, IsPinned, LeavesOnly}
use Rattle.journal_core.specs.declared.area.AreaFault.{AreaFault}
use Rattle.journal_core.specs.declared.area.AreaFault.TheVariants.{Disk as DiskFailed, AreaFull, NoMemory}
use Rattle.journal_core.specs.Area.{area_limit, area_bytes}
use Rattle.journal_core.specs.AreaView.{AreaView}
use Rattle.journal_core.specs.Rest.{IsOldOrShutOrNew}

module _ {D : Type 0} (clock : D → ℕ) (left_since : D → ℕ → List ℕ → Type 0) (image : D → Option (List ℕ)) (faults : D → ℕ) where
  -- An area of this generation and image, which fits, was being written over a disk: whatever comes
  -- of it, this holds.
  pub record Overwrites (old new : D) (generation : ℕ) (bytes : List ℕ) : Type 0 where
    pub fits : area_limit < length bytes + 25 → ⊥
    pub any_moment : (before : List ℕ) → image old ≡ Some before →
        IsPinned clock left_since image old →
        LeavesOnly clock left_since old new (IsOldOrShutOrNew before (area_bytes generation bytes []))
    pub told : is_some (image new) ≡ is_some (image old)
    pub never_falls : faults old ≤ faults new

  -- The area has moved: its disk is what was the other one, of which no call failed, and the other
  -- is what was its own.
  pub record HasMoved (old : AreaView D) (other : D) (generation : ℕ) (bytes : List ℕ) (new : AreaView D) (after : D) : Type 0 where
    pub overwrites : Overwrites other new.disk generation bytes
    pub end : new.end ≡ 24 + length bytes
    pub now : image new.disk ≡ option_map (written 0 (area_bytes generation bytes [] ++ 0 ∷ [])) (image other)
    pub pinned : IsPinned clock left_since image new.disk
    pub no_fault : faults new.disk ≡ faults other
    pub other_is : after ≡ old.disk

  -- The other disk failed.
  pub record HasNotMoved (old : AreaView D) (other : D) (generation : ℕ) (bytes : List ℕ) (new : AreaView D) (after : D) : Type 0 where
    pub overwrites : Overwrites other after generation bytes
    pub stays : new ≡ old
    pub risen : HasRisen (faults other) (faults after)

  -- what became of the area and of the other disk
  abbrev pub MovesArea : AreaView D → D → ℕ → List ℕ → Result (Unit {0}) AreaFault → AreaView D →
      D → Type 0
  MovesArea old other generation bytes (Ok done) new after = HasMoved old other generation bytes new after
  MovesArea old other generation bytes (Err DiskFailed) new after = HasNotMoved old other generation bytes new after
  MovesArea old other generation bytes (Err AreaFull) new after = (area_limit < length bytes + 25) ×
      (new ≡ old) × (after ≡ other)
  MovesArea old other generation bytes (Err NoMemory) new after = (new ≡ old) × (after ≡ other)
