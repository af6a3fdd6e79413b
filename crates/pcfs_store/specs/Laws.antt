-- Laws of the definitions: entries say what a store shows, and a step is full exactly if its event
-- does not fit.
use Rattle.std.specs.Prelude.{◌≡◌, ◌⊎◌, ◌+◌, ℕ, ℤ, List, Option, Some, None}
use Rattle.journal_records.specs.declared.event.Event.{Event}
use Rattle.access_history.specs.declared.request.StepRequest.{StepRequest}
use Rattle.access_history.specs.declared.reply.StepReply.{StepReply}
use Rattle.access_history.specs.Lawful.{IsLawful}
use Rattle.pcfs_store.specs.declared.reply.StoreReply.{StoreReply}
use Rattle.pcfs_store.specs.declared.reply.StoreReply.TheVariants.{Full, NoMemory}
use Rattle.pcfs_store.specs.Newest.{SurvivesWhole, SurvivesWholeClosed}
use Rattle.pcfs_store.specs.StoreView.{StoreView, AnswersIn, authority_of_store, IsStore, first_disk, second_disk}
use Rattle.access_history.specs.Replay.{fresh}
use Rattle.pcfs_store.specs.Image.{fresh_image, IsImageOf}
use Rattle.pcfs_store.specs.Entries.{root_of, entries_of, events_among, checkpoints_among, used_by}
use Rattle.pcfs_store.specs.Ready.{IsReady, IsCurrent, StopsNow}
use Rattle.pcfs_store.specs.Steps.{IsFullFor, Steps}
use Rattle.pcfs_store.specs.declared.reply.CheckpointReply.{CheckpointReply}
use Rattle.pcfs_store.specs.declared.reply.CheckpointReply.TheVariants as checkpoints
use Rattle.pcfs_store.specs.Checkpoints.{IsFullForCheckpoint, MakesCheckpoint}

-- the image of a store before its first event, as it stands in bytes, is the image of that state
abbrev pub FreshHasImage : Type 0
FreshHasImage = IsImageOf fresh fresh_image

-- the area of a store has the bytes that its entries ask for
abbrev pub EntriesSayUse : Type 0 → Type 0
EntriesSayUse D = (s : StoreView D) → IsStore s → s.used ≡ used_by (root_of s) (entries_of s)

-- its generation is that of the opened area, and one more for each checkpoint
abbrev pub EntriesSayGeneration : Type 0 → Type 0
EntriesSayGeneration D = (s : StoreView D) → IsStore s
    → s.generation ≡ (root_of s).generation + checkpoints_among (entries_of s)

-- the events of a store are those among its entries
abbrev pub EntriesHaveEvents : Type 0 → Type 0
EntriesHaveEvents D = (s : StoreView D) → events_among (entries_of s) ≡ s.events

-- over a store that is not stopped, a request whose answer keeps an event that does not fit is
-- answered Full, if memory does not run out
abbrev pub FullIsExact : (D : Type 0) → (D → ℕ) → Type 0
FullIsExact D faults =
    (old new : StoreView D) (pass : ℕ) (clock : ℤ) (request : StepRequest) (reply : StepReply) (event : Event) (told : StoreReply)
    → IsLawful (authority_of_store old) old.base old.events → old.stop ≡ None
    → AnswersIn old pass clock request reply (Some event) → IsFullFor old event
    → Steps faults old pass clock request told new
    → (told ≡ Full) ⊎ (told ≡ NoMemory)

-- over a store that is not stopped, a checkpoint whose image does not fit, or that has no next
-- generation, is answered Full, if memory does not run out
abbrev pub CheckpointFullIsExact : (D : Type 0) → (D → ℕ) → Type 0
CheckpointFullIsExact D faults =
    (old new : StoreView D) (pass : ℕ) (told : CheckpointReply) → old.stop ≡ None
    → IsFullForCheckpoint old → MakesCheckpoint faults old pass told new
    → (told ≡ checkpoints.Full) ⊎ (told ≡ checkpoints.NoMemory)

-- what a read of the disks of a current store gives has its history
abbrev pub CurrentSurvives : (D : Type 0) → (D → ℕ) → (D → ℕ → List ℕ → Type 0)
    → (D → Option (List ℕ)) → Type 0
CurrentSurvives D clock left_since image =
    (s : StoreView D) (first second : List ℕ) → IsStore s → IsCurrent clock left_since image s
    → image (first_disk s) ≡ Some first → image (second_disk s) ≡ Some second
    → SurvivesWhole s.base s.events first second

-- a store that is ready is current, and a crash now leaves its history
abbrev pub ReadyIsCurrent : (D : Type 0) → (D → ℕ) → (D → ℕ → List ℕ → Type 0)
    → (D → Option (List ℕ)) → Type 0
ReadyIsCurrent D clock left_since image = (s : StoreView D) → IsReady clock left_since image s
    → IsCurrent clock left_since image s

abbrev pub ReadySurvives : (D : Type 0) → (D → ℕ) → (D → ℕ → List ℕ → Type 0)
    → (D → Option (List ℕ)) → Type 0
ReadySurvives D clock left_since image = (s : StoreView D) → IsStore s
    → IsReady clock left_since image s
    → StopsNow clock left_since image s (SurvivesWholeClosed s.base s.events)
