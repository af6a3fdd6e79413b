-- How a store goes on from its opening, while steps are made (this project's own).
use Rattle.std.specs.Prelude.{◌≡◌, ◌⊎◌, ℕ, ◌+◌, ◌≤◌, length, List, [], ◌∷◌, ◌++◌, Option, Some, None, is_some}
use mathlib.Core.List.{IsPrefix}
use Rattle.pcfs_ports.specs.Faults.{HasRisen}
use Rattle.journal_records.specs.declared.event.Event.{Event}
use Rattle.access_history.specs.Lawful.{IsLawful}
use Rattle.pcfs_store.specs.StoreView.{StoreView, authority_of_store, first_disk, second_disk, NoneFailed, HasNothingAdded, body_of}
use Rattle.pcfs_store.specs.Newest.{NewestBegins}
use Rattle.pcfs_store.specs.Checkpoints.{place_after}
use Rattle.pcfs_store.specs.Ready.{IsReady, IsCurrent, IsAtRest, RestsSince, StopsNow, SurvivesStopAt, SurvivesCheckpoint}

-- of a disk of the store a count has risen since it was opened
abbrev pub HasCountRisen : {D : Type 0} → (D → ℕ) → StoreView D → StoreView D → Type 0
HasCountRisen faults opening now = HasRisen (faults (first_disk opening)) (faults (first_disk now)) ⊎
    HasRisen (faults (second_disk opening)) (faults (second_disk now))

-- Below, of a disk d `clock d` is the present moment, `left_since d t bytes` says that a crash at
-- some moment since t may have left these bytes, `image d` is what a read gives, if d tells it, and
-- `faults d` counts its faults.

module _ {D : Type 0} (clock : D → ℕ) (left_since : D → ℕ → List ℕ → Type 0) (image : D → Option (List ℕ)) (faults : D → ℕ) where
  -- The store was opened as `opening`, and is `now`. Key, ring, base and the image that was opened
  -- are the same, and the events are those of the opening with others after them; if the former are
  -- lawful, so are all. Checkpoints were added at the end: with each the generation grew by one,
  -- and the disks changed their places; as long as none was made, the other disk is not touched, or
  -- one was tried in which it failed: then no event was being kept. While the store is not stopped,
  -- no call of a disk has failed, a store that was ready is ready, and what a read gives stands for
  -- its history. If it is, a count rose above the one at the opening; and of a store that was ready
  -- a crash leaves the history, or, if it failed in a step, with it the event that the step was
  -- keeping, which may follow; in the area where it was, or, if it failed in a checkpoint, perhaps
  -- in one of the next generation on the other disk. A store that lacked its closed gate is ready
  -- once something was added, and then all this is so of it too; before that, if a checkpoint met
  -- the fault, but for the closed gate; and if a step met it, the area of its history still begins
  -- the newest one, which is where it was.
  pub record HasGoneOn (opening now : StoreView D) : Type 0 where
    pub began : opening.stop ≡ None
    pub key_stays : now.key ≡ opening.key
    pub ring_stays : now.ring ≡ opening.ring
    pub base_stays : now.base ≡ opening.base
    pub opened_stays : now.opened ≡ opening.opened
    pub events_go_on : IsPrefix opening.events now.events
    pub lawful : IsLawful (authority_of_store opening) opening.base opening.events →
        IsLawful (authority_of_store now) now.base now.events
    pub checkpoints_go_on : IsPrefix opening.checkpoints now.checkpoints
    pub generation_grows : now.generation ≡ opening.generation + length checkpoints_go_on.0
    pub place_is : now.second_active ≡ place_after (length checkpoints_go_on.0) opening.second_active
    pub other_stays : checkpoints_go_on.0 ≡ [] → (now.other ≡ opening.other) ⊎
        ((pass : ℕ) × (now.stop ≡ Some pass) × (now.met ≡ None) ×
        HasRisen (faults opening.other) (faults now.other))
    pub ready : IsReady clock left_since image opening → now.stop ≡ None →
        IsReady clock left_since image now
    pub current : IsCurrent clock left_since image opening → now.stop ≡ None →
        IsCurrent clock left_since image now
    pub halts : IsReady clock left_since image opening → (pass : ℕ) → now.stop ≡ Some pass →
        StopsNow clock left_since image now (SurvivesStopAt now.base now.events now.generation now.second_active now.met)
    pub at_rest : IsAtRest clock left_since image opening → now.stop ≡ None →
        RestsSince clock left_since image opening now
    pub halts_mended : IsAtRest clock left_since image opening → (pass : ℕ) →
        now.stop ≡ Some pass → (HasNothingAdded opening now → ⊥) →
        StopsNow clock left_since image now
        (SurvivesStopAt now.base now.events now.generation now.second_active now.met)
    pub halts_checkpoint : IsAtRest clock left_since image opening → (pass : ℕ) →
        now.stop ≡ Some pass → now.met ≡ None →
        StopsNow clock left_since image now
        (SurvivesCheckpoint now.base now.events now.generation now.second_active)
    pub halts_event : IsAtRest clock left_since image opening → (pass : ℕ) (event : Event) →
        now.stop ≡ Some pass → now.met ≡ Some event →
        StopsNow clock left_since image now
        (NewestBegins now.generation now.second_active (body_of now))
    pub follows : (pass : ℕ) (event : Event) → now.stop ≡ Some pass → now.met ≡ Some event →
        IsLawful (authority_of_store now) now.base now.events →
        IsLawful (authority_of_store now) now.base (now.events ++ event ∷ [])
    pub none_failed : now.stop ≡ None → NoneFailed faults opening now
    pub failed : (pass : ℕ) → now.stop ≡ Some pass → HasCountRisen faults opening now
    pub first_told : is_some (image (first_disk now)) ≡ is_some (image (first_disk opening))
    pub second_told : is_some (image (second_disk now)) ≡ is_some (image (second_disk opening))
    pub first_never_falls : faults (first_disk opening) ≤ faults (first_disk now)
    pub second_never_falls : faults (second_disk opening) ≤ faults (second_disk now)
