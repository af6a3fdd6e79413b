-- A store, as callers see it. This project's own.
use Rattle.std.specs.Prelude.{◌≡◌, ℕ, ℤ, ◌<◌, ◌≤◌, List, [], ◌∷◌, Option, Bool, length, drop}
use Rattle.journal_core.specs.Area.{area_limit, IsGeneration}
use Rattle.policy_statement.specs.Ring.{KeyView}
use Rattle.journal_records.specs.declared.event.Event.{Event}
use Rattle.access_history.specs.declared.request.StepRequest.{StepRequest}
use Rattle.access_history.specs.declared.reply.StepReply.{StepReply}
use Rattle.access_history.specs.Base.{BaseView}
use Rattle.access_history.specs.Authority.{Authority}
use Rattle.access_history.specs.History.{authority_with}
use Rattle.access_history.specs.Replay.{replay}
use Rattle.access_history.specs.Answer.{Answers}
use Rattle.checkpoint_image.specs.ImageSpelling.{image_spelling}
use Rattle.pcfs_store.specs.declared.checkpoints.Checkpoint.{Checkpoint}
use Rattle.pcfs_store.specs.Image.{IsImageOf}
use Rattle.pcfs_store.specs.StoredHistory.{AreSpellable, state_after, area_since}
use Rattle.pcfs_store.specs.Newest.{one_of}

-- the disk with the area that counts, and the other one; whether it is the second; the area's
-- generation, and how many bytes stand in it before its closed gate; the key of the seal and the
-- ring of those whose signatures are accepted; the base, the image of it with which the store was
-- opened, and the events since, each with its pass, which is 0 if it was read from an area; the
-- checkpoints that were made of them; and, if a disk failed, the pass of the step or checkpoint in
-- which it did, and, if that was a step, the event that was being kept, of which only the disk
-- knows whether it was
pub record StoreView (D : Type 0) : Type 0 where
  pub active : D
  pub other : D
  pub second_active : Bool
  pub generation : ℕ
  pub used : ℕ
  pub key : List ℕ
  pub ring : List KeyView
  pub base : BaseView
  pub opened : List ℕ
  pub events : List Event
  pub checkpoints : List Checkpoint
  pub stop : Option ℕ
  pub met : Option Event

-- the disks in the order in which they were given
abbrev pub first_disk : {D : Type 0} → StoreView D → D
first_disk s = one_of s.active s.other s.second_active

abbrev pub second_disk : {D : Type 0} → StoreView D → D
second_disk s = one_of s.other s.active s.second_active

-- no call of a disk failed from one moment of the store to a later one: their counts of faults,
-- which `faults` tells, stand
pub record NoneFailed {D : Type 0} (faults : D → ℕ) (old new : StoreView D) : Type 0 where
  pub first : faults (first_disk new) ≡ faults (first_disk old)
  pub second : faults (second_disk new) ≡ faults (second_disk old)

-- no event was kept from one moment of the store to a later one, and no checkpoint made
pub record HasNothingAdded {D : Type 0} (old new : StoreView D) : Type 0 where
  pub events_stay : new.events ≡ old.events
  pub checkpoints_stay : new.checkpoints ≡ old.checkpoints

abbrev pub authority_of_store : {D : Type 0} → StoreView D → Authority
authority_of_store s = authority_with s.key s.ring

-- the state to which the events lead
abbrev pub state_of_store : {D : Type 0} → StoreView D → BaseView
state_of_store s = replay s.base s.events

-- the answer to a request over that state, and the event to keep
abbrev pub AnswersIn : {D : Type 0} → StoreView D → ℕ → ℤ → StepRequest → StepReply → Option Event →
    Type 0
AnswersIn s pass clock request reply event = Answers (authority_of_store s) (state_of_store s) pass clock request reply event

-- after how many events the last of these checkpoints was made, or `since` if there is none
abbrev pub last_after : ℕ → List Checkpoint → ℕ
last_after since [] = since
last_after since (checkpoint ∷ checkpoints) = last_after checkpoint.after checkpoints

-- of how many events the image of the area is the state
abbrev pub settled_of : {D : Type 0} → StoreView D → ℕ
settled_of s = last_after 0 s.checkpoints

-- that state, and the events since, whose records follow the image
abbrev pub head_of : {D : Type 0} → StoreView D → BaseView
head_of s = state_after s.base s.events (settled_of s)

abbrev pub records_of : {D : Type 0} → StoreView D → List Event
records_of s = drop (settled_of s) s.events

-- the image with which the area begins after these checkpoints: the one that was opened if there is
-- none, or what is written of the state at the last of them
abbrev pub image_since : List ℕ → BaseView → List Checkpoint → List ℕ
image_since opened head [] = opened
image_since opened head (checkpoint ∷ checkpoints) = image_spelling head

abbrev pub image_of : {D : Type 0} → StoreView D → List ℕ
image_of s = image_since s.opened (head_of s) s.checkpoints

-- the area of the history, without its closed gate
abbrev pub body_of : {D : Type 0} → StoreView D → List ℕ
body_of s = area_since s.generation (image_of s) s.events (settled_of s)

-- each checkpoint was made after no fewer events than the one before it, and after no more than
-- there are
abbrev pub AreInOrder : ℕ → ℕ → List Checkpoint → Type 0
AreInOrder least most [] = least ≤ most
AreInOrder least most (checkpoint ∷ checkpoints) = (least ≤ checkpoint.after) ×
    AreInOrder checkpoint.after most checkpoints

-- what a store keeps at every moment: its area has the bytes of its history before the closed gate,
-- for which there is room; and each checkpoint took the next generation
pub record IsStore {D : Type 0} (s : StoreView D) : Type 0 where
  pub generated : IsGeneration s.generation
  pub counted : length s.checkpoints < s.generation
  pub in_order : AreInOrder 0 (length s.events) s.checkpoints
  pub is_image : IsImageOf (head_of s) (image_of s)
  pub spelled : AreSpellable s.events
  pub used_is : s.used ≡ length (body_of s)
  pub fits : s.used < area_limit
