-- What a checkpoint of a store answers and keeps. This project's own.
use Rattle.std.specs.Prelude.{◌≡◌, ◌≢◌, ◌⊎◌, ℕ, zero, suc, Bool, ◌+◌, ◌<◌, ◌≤◌, List, [], ◌∷◌, ◌++◌, length, not, is_some, Option, Some, None}
use Rattle.bl_syntax.specs.declared.limits.TheConstants.{MOST_EVENTS}
use Rattle.pcfs_ports.specs.Faults.{HasRisen}
use Rattle.pcfs_ports.specs.Disk.{IsPinned}
use Rattle.journal_core.specs.Area.{area_limit, area_bytes, Closed}
use Rattle.journal_records.specs.declared.event.Event.{Event}
use Rattle.access_history.specs.Base.{BaseView}
use Rattle.checkpoint_image.specs.ImageSpelling.{image_spelling}
use Rattle.pcfs_store.specs.Entries.{StoreEntry, happened, checkpointed, stopped as stop_mark}
use Rattle.pcfs_store.specs.declared.reply.CheckpointReply.{CheckpointReply}
use Rattle.pcfs_store.specs.declared.reply.CheckpointReply.TheVariants.{Checkpointed, Full, Stopped, NoMemory}
use Rattle.pcfs_store.specs.Newest.{newest, SurvivesWholeClosed, IsNewestAt, IsNewestAtOrNext}
use Rattle.pcfs_store.specs.StoreView.{StoreView, first_disk, second_disk, state_of_store}
use Rattle.pcfs_store.specs.Ready.{SurvivesWithOrWithout, SurvivesStopAt, SurvivesCheckpoint, IsReady, IsCurrent, IsAtRest, Keeps, StopsLeave, StopsNow}

-- the image of the state does not fit with a closed gate after it, or there is no next generation
abbrev pub IsFullForCheckpoint : {D : Type 0} → StoreView D → Type 0
IsFullForCheckpoint s = (area_limit < length (image_spelling (state_of_store s)) + 25) ⊎
    (MOST_EVENTS ≤ s.generation)

-- the store after a checkpoint: the disks have changed their places, and the one that was the other
-- has an area of the next generation, with the image of the state and no records
abbrev pub with_checkpoint : {D : Type 0} → StoreView D → ℕ → D → StoreView D
with_checkpoint s pass active = record s {
  active = active;
  other = s.active;
  second_active = not s.second_active;
  generation = s.generation + 1;
  used = 24 + length (image_spelling (state_of_store s));
  checkpoints = s.checkpoints ++ record { after = length s.events; pass = pass } ∷ [];
}

-- whether the second of the disks has the area after so many checkpoints, of which each exchanges
-- them
abbrev pub place_after : ℕ → Bool → Bool
place_after zero second = second
place_after (suc n) second = not (place_after n second)

-- What a crash leaves of a history when a disk failed: with or without the event that was being
-- kept; and whole if it was a checkpoint.
abbrev pub SurvivesMet : BaseView → List Event → StoreEntry → List ℕ → List ℕ → Type 0
SurvivesMet base events (happened event) first second = SurvivesWithOrWithout base events event first second
SurvivesMet base events (checkpointed pass) first second = SurvivesWholeClosed base events first second
SurvivesMet base events (stop_mark pass met) first second = SurvivesWholeClosed base events first second

-- where the newest area is then, and its generation: as before, if an event was being kept; and if
-- it was a checkpoint, so, or on the other disk, with the next generation
abbrev pub IsNewestMet : ℕ → Bool → StoreEntry → List ℕ → List ℕ → Type 0
IsNewestMet generation second (happened event) x y = IsNewestAt generation second x y
IsNewestMet generation second (checkpointed pass) x y = IsNewestAtOrNext generation second x y
IsNewestMet generation second (stop_mark pass met) x y = IsNewestAtOrNext generation second x y

-- all that a crash leaves then: the history, in an area there
abbrev pub SurvivesMetAt : BaseView → List Event → ℕ → Bool → StoreEntry → List ℕ → List ℕ → Type 0
SurvivesMetAt base events generation second entry x y = SurvivesMet base events entry x y ×
    IsNewestMet generation second entry x y

-- What a checkpoint answers, and the store after it. Nothing else comes.
pub data MakesCheckpoint {D : Type 0} (faults : D → ℕ) (old : StoreView D) (pass : ℕ) : CheckpointReply → StoreView D → Type 0 where
  -- the image of the state is on what was the other disk, no call of which failed, and the area
  -- that counts is there
  made : (active : D) → old.stop ≡ None → (IsFullForCheckpoint old → ⊥) →
      faults active ≡ faults old.other →
      MakesCheckpoint faults old pass Checkpointed (with_checkpoint old pass active)
  -- it does not fit
  full : old.stop ≡ None → IsFullForCheckpoint old → MakesCheckpoint faults old pass Full old
  -- the other disk failed
  failed : (other : D) → old.stop ≡ None → (IsFullForCheckpoint old → ⊥) →
      HasRisen (faults old.other) (faults other) →
      MakesCheckpoint faults old pass Stopped (record old { other = other; stop = Some pass; met = None })
  -- a disk failed before
  stopped : (earlier : ℕ) → old.stop ≡ Some earlier → MakesCheckpoint faults old pass Stopped old
  -- memory ran out
  without_memory : old.stop ≡ None → MakesCheckpoint faults old pass NoMemory old

-- The newest area of these two disks' bytes has the next generation, the image of the state, no
-- records, and a closed gate.
pub record IsNewestCheckpoint {D : Type 0} (old : StoreView D) (first second : List ℕ) : Type 0 where
  pub bytes : List ℕ
  pub counts : newest first second ≡ Some bytes
  pub closed : Closed (area_bytes (old.generation + 1) (image_spelling (state_of_store old)) []) bytes

module _ {D : Type 0} (clock : D → ℕ) (left_since : D → ℕ → List ℕ → Type 0) (image : D → Option (List ℕ)) (faults : D → ℕ) where
  -- all that a checkpoint promises, from the old store to the new one
  pub record Checkpoints (old : StoreView D) (pass : ℕ) (result : CheckpointReply) (new : StoreView D) : Type 0 where
    pub answer : MakesCheckpoint faults old pass result new
    pub stays_ready : IsReady clock left_since image old → result ≢ Stopped →
        IsReady clock left_since image new
    pub stays_kept : Keeps clock left_since image old → Keeps clock left_since image new
    pub stays_current : IsCurrent clock left_since image old → result ≢ Stopped →
        IsCurrent clock left_since image new
    -- also of a store that lacks its closed gate, or on whose other disk something is pending, a
    -- checkpoint makes one that is ready
    pub makes_ready : IsCurrent clock left_since image old → result ≡ Checkpointed →
        (active other : List ℕ) → image old.active ≡ Some active → image old.other ≡ Some other →
        IsPinned clock left_since image old.active →
        IsReady clock left_since image new
    pub any_moment : IsReady clock left_since image old →
        StopsLeave clock left_since image old new (SurvivesWholeClosed old.base old.events)
    pub halts : IsReady clock left_since image old → result ≡ Stopped →
        StopsNow clock left_since image new (SurvivesStopAt old.base old.events old.generation old.second_active None)
    pub halts_at_rest : IsAtRest clock left_since image old → result ≡ Stopped →
        StopsNow clock left_since image new
        (SurvivesCheckpoint old.base old.events old.generation old.second_active)
    pub newest : IsCurrent clock left_since image old → result ≡ Checkpointed →
        (first second : List ℕ) → image (first_disk new) ≡ Some first →
        image (second_disk new) ≡ Some second → IsNewestCheckpoint old first second
    pub first_told : is_some (image (first_disk new)) ≡ is_some (image (first_disk old))
    pub second_told : is_some (image (second_disk new)) ≡ is_some (image (second_disk old))
    pub first_never_falls : faults (first_disk old) ≤ faults (first_disk new)
    pub second_never_falls : faults (second_disk old) ≤ faults (second_disk new)
