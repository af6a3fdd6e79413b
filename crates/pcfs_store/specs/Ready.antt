-- Stores that are ready, and what a crash may leave of one. This project's own.
use Rattle.std.specs.Prelude.{◌≡◌, ◌⊎◌, ℕ, ◌+◌, ◌≤◌, List, [], ◌∷◌, ◌++◌, Option, Some, None, IfSome, Bool, true, false}
use Rattle.pcfs_ports.specs.Disk.{IsPinned}
use Rattle.journal_core.specs.Area.{StandsForBody, generation_of}
use Rattle.journal_core.specs.Rest.{Rests}
use Rattle.journal_records.specs.declared.event.Event.{Event}
use Rattle.access_history.specs.Base.{BaseView}
use Rattle.pcfs_store.specs.Newest.{SurvivesWhole, SurvivesWholeClosed, IsNewestAt, IsNewestAtOrNext}
use Rattle.pcfs_store.specs.StoreView.{StoreView, HasNothingAdded, first_disk, second_disk, body_of}

-- what a generation that is equal lacks to count: the first area counts then
abbrev pub tie : Bool → ℕ
tie false = 0
tie true = 1

-- another area, of that generation if it is open, does not count beside this one
abbrev pub IsBehind : Bool → ℕ → Option ℕ → Type 0
IsBehind second_active generation None = Unit {0}
IsBehind second_active generation (Some found) = found + tie second_active ≤ generation

-- the history survives, or with it one event that met a fault, in an area with its closed gate
abbrev pub SurvivesWithOrWithout : BaseView → List Event → Event → List ℕ → List ℕ → Type 0
SurvivesWithOrWithout base events met first second = SurvivesWholeClosed base events first second ⊎
    SurvivesWholeClosed base (events ++ met ∷ []) first second

-- what a crash leaves of a history when a disk failed: with or without the event that was being
-- kept; and whole if none was
abbrev pub SurvivesStop : BaseView → List Event → Option Event → List ℕ → List ℕ → Type 0
SurvivesStop base events None first second = SurvivesWholeClosed base events first second
SurvivesStop base events (Some met) first second = SurvivesWithOrWithout base events met first second

-- where the newest area is after a fault, and its generation: as before, if an event was being
-- kept; and if it was a checkpoint, so, or on the other disk, with the next generation
abbrev pub IsNewestStop : ℕ → Bool → Option Event → List ℕ → List ℕ → Type 0
IsNewestStop generation second None x y = IsNewestAtOrNext generation second x y
IsNewestStop generation second (Some met) x y = IsNewestAt generation second x y

-- all that a crash leaves after a fault: the history, in an area there
abbrev pub SurvivesStopAt : BaseView → List Event → ℕ → Bool → Option Event → List ℕ → List ℕ → Type 0
SurvivesStopAt base events generation second met x y = SurvivesStop base events met x y ×
    IsNewestStop generation second met x y

-- what a crash leaves if a checkpoint met the fault, of an area that may lack its closed gate: the
-- history, in that area or in the next one
abbrev pub SurvivesCheckpoint : BaseView → List Event → ℕ → Bool → List ℕ → List ℕ → Type 0
SurvivesCheckpoint base events generation second x y = SurvivesWhole base events x y ×
    IsNewestAtOrNext generation second x y

-- Below, `clock d` is the present moment of a disk d, `left_since d t bytes` says that a crash at
-- some moment since t may have left these bytes, and `image d` is what a read gives, if d tells it.
module _ {D : Type 0} (clock : D → ℕ) (left_since : D → ℕ → List ℕ → Type 0) (image : D → Option (List ℕ)) where
  -- The store is ready: no disk failed; nothing is pending; the area that counts is closed, and
  -- stands for its history.
  pub record IsReady (s : StoreView D) : Type 0 where
    pub running : s.stop ≡ None
    pub rests : Rests clock left_since image s.active (body_of s)
    pub other_bytes : List ℕ
    pub other_told : image s.other ≡ Some other_bytes
    pub other_pinned : IsPinned clock left_since image s.other
    pub behind : IsBehind s.second_active s.generation (generation_of other_bytes)

  -- What a read gives of the area that counts stands for the history, if it is told, whatever is
  -- pending.
  pub record IsCurrent (s : StoreView D) : Type 0 where
    pub running : s.stop ≡ None
    pub active : IfSome (image s.active) (StandsForBody (body_of s))
    pub other : IfSome (image s.other) (λ bytes. IsBehind s.second_active s.generation (generation_of bytes))

  -- The store is current, with the closed gate of its area or without it; both disks tell their
  -- bytes, and nothing is pending. So it is when it was opened.
  pub record IsAtRest (s : StoreView D) : Type 0 where
    pub current : IsCurrent s
    pub active_bytes : List ℕ
    pub active_told : image s.active ≡ Some active_bytes
    pub active_pinned : IsPinned clock left_since image s.active
    pub other_bytes : List ℕ
    pub other_told : image s.other ≡ Some other_bytes
    pub other_pinned : IsPinned clock left_since image s.other

  -- from one moment of a store at rest to a later one: it is at rest, and ready if something was
  -- added
  abbrev pub RestsSince : StoreView D → StoreView D → Type 0
  RestsSince old new = IsAtRest new × (IsReady new ⊎ HasNothingAdded old new)

  -- A crash at any moment of the first disk and at any of the second, from the old store to the new
  -- one, leaves only pairs with P.
  abbrev pub StopsLeave : StoreView D → StoreView D → (List ℕ → List ℕ → Type 0) → Type 0
  StopsLeave old new P =
      (first second : List ℕ) → left_since (first_disk new) (clock (first_disk old)) first →
      left_since (second_disk new) (clock (second_disk old)) second → P first second

  -- a crash now leaves only pairs with P
  abbrev pub StopsNow : StoreView D → (List ℕ → List ℕ → Type 0) → Type 0
  StopsNow s P = StopsLeave s s P

  -- What a store keeps through all its steps and checkpoints: it is ready; or a disk failed, and a
  -- crash now leaves its history, or, if it failed in a step, with it the event that the step was
  -- keeping, in an area where it was, or, if it failed in a checkpoint, perhaps in the next one.
  pub data Keeps (s : StoreView D) : Type 0 where
    ready : IsReady s → Keeps s
    halted : (pass : ℕ) → s.stop ≡ Some pass →
        StopsNow s (SurvivesStopAt s.base s.events s.generation s.second_active s.met) → Keeps s
