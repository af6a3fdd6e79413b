-- What a call of a store promises that keeps at most one event more: a step, or the admission of an
-- event. This project's own.
use Rattle.std.specs.Prelude.{◌≡◌, ◌≢◌, ◌<◌, ◌≤◌, ℕ, List, length, is_some, Option, Some}
use Rattle.pcfs_ports.specs.Disk.{IsPinned}
use Rattle.pcfs_store.specs.StoreView.{StoreView, first_disk, second_disk, body_of}
use Rattle.pcfs_store.specs.Newest.{NewestBegins}
use Rattle.pcfs_store.specs.Ready.{IsReady, IsCurrent, IsAtRest, Keeps, StopsLeave, StopsNow, SurvivesStopAt}

module _ {D : Type 0} (clock : D → ℕ) (left_since : D → ℕ → List ℕ → Type 0) (image : D → Option (List ℕ)) (faults : D → ℕ) where
  -- `Answer` says what is answered and what becomes of the store, `Left` what a crash within the call
  -- may leave, and `halt` is the answer after a fault of a disk.
  pub record Promises {R : Type 0} (Answer : R → StoreView D → Type 0) (Left : List ℕ → List ℕ → Type 0) (halt : R)
      (old : StoreView D) (result : R) (new : StoreView D) : Type 0 where
    pub answer : Answer result new
    pub stays_ready : IsReady clock left_since image old → result ≢ halt →
        IsReady clock left_since image new
    pub stays_kept : Keeps clock left_since image old → Keeps clock left_since image new
    pub stays_current : IsCurrent clock left_since image old → result ≢ halt →
        IsCurrent clock left_since image new
    -- also of a store that lacks its closed gate, or on whose disk something is pending, an event
    -- that is kept makes one that is ready
    pub makes_ready : IsCurrent clock left_since image old →
        length old.events < length new.events → (active other : List ℕ) →
        image old.active ≡ Some active → image old.other ≡ Some other →
        IsPinned clock left_since image old.other → IsReady clock left_since image new
    pub any_moment : IsReady clock left_since image old →
        StopsLeave clock left_since image old new Left
    pub met : IsReady clock left_since image old → result ≡ halt →
        StopsNow clock left_since image new (SurvivesStopAt old.base old.events old.generation old.second_active new.met)
    -- of a store that lacks its closed gate, if nothing is pending, a fault leaves an area that
    -- begins with that of the history
    pub met_at_rest : IsAtRest clock left_since image old → result ≡ halt →
        StopsNow clock left_since image new
        (NewestBegins old.generation old.second_active (body_of old))
    pub first_told : is_some (image (first_disk new)) ≡ is_some (image (first_disk old))
    pub second_told : is_some (image (second_disk new)) ≡ is_some (image (second_disk old))
    pub first_never_falls : faults (first_disk old) ≤ faults (first_disk new)
    pub second_never_falls : faults (second_disk old) ≤ faults (second_disk new)
