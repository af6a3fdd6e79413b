-- What steps and checkpoints add to the entries of a store (this project's own).
use Rattle.std.specs.Prelude.{◌≡◌, ℕ, ℤ, List, [], ◌∷◌, ◌++◌, Option, Some, None}
use Rattle.journal_records.specs.declared.event.Event.{Event}
use Rattle.access_history.specs.declared.request.StepRequest.{StepRequest}
use Rattle.access_history.specs.declared.reply.StepReply.{StepReply}
use Rattle.pcfs_store.specs.declared.reply.StoreReply.{StoreReply}
use Rattle.pcfs_store.specs.declared.reply.StoreReply.TheVariants as stores
use Rattle.pcfs_store.specs.declared.reply.CheckpointReply.{CheckpointReply}
use Rattle.pcfs_store.specs.declared.reply.CheckpointReply.TheVariants as checkpoint_replies
use Rattle.pcfs_store.specs.Entries.{StoreEntry, happened, checkpointed, stopped, entries_of}
use Rattle.pcfs_store.specs.StoreView.{StoreView, AnswersIn, IsStore}
use Rattle.pcfs_store.specs.Steps.{Steps}
use Rattle.pcfs_store.specs.Checkpoints.{MakesCheckpoint}

-- what a step of this reply adds: the event that its answer keeps, or the mark of a disk that
-- failed under it
pub data StepGives {D : Type 0} (old : StoreView D) (pass : ℕ) (clock : ℤ) (request : StepRequest) : StoreReply → List StoreEntry → Type 0 where
  nothing : (reply : StepReply) → AnswersIn old pass clock request reply None →
      StepGives old pass clock request (stores.Step reply) []
  an_event : (reply : StepReply) (event : Event) →
      AnswersIn old pass clock request reply (Some event) →
      StepGives old pass clock request (stores.Step reply) (happened event ∷ [])
  no_room : StepGives old pass clock request stores.Full []
  the_mark : (reply : StepReply) (event : Event) → old.stop ≡ None →
      AnswersIn old pass clock request reply (Some event) →
      StepGives old pass clock request stores.Stopped (stopped pass (Some event) ∷ [])
  had_mark : (earlier : ℕ) → old.stop ≡ Some earlier →
      StepGives old pass clock request stores.Stopped []
  no_memory : StepGives old pass clock request stores.NoMemory []

-- what a checkpoint of this reply adds to a store that was stopped in that pass, if it was
abbrev pub checkpoint_gives : Option ℕ → ℕ → CheckpointReply → List StoreEntry
checkpoint_gives (Some earlier) pass reply = []
checkpoint_gives None pass checkpoint_replies.Checkpointed = checkpointed pass ∷ []
checkpoint_gives None pass checkpoint_replies.Full = []
checkpoint_gives None pass checkpoint_replies.Stopped = stopped pass None ∷ []
checkpoint_gives None pass checkpoint_replies.NoMemory = []

-- the entries grow at their end, by what a step adds
abbrev pub StepsGrow : (D : Type 0) → (D → ℕ) → Type 0
StepsGrow D faults = (old new : StoreView D) (pass : ℕ) (clock : ℤ) (request : StepRequest) (reply : StoreReply) →
    IsStore old → Steps faults old pass clock request reply new →
    (given : List StoreEntry) × StepGives old pass clock request reply given ×
    (entries_of new ≡ entries_of old ++ given)

-- and by what a checkpoint adds
abbrev pub CheckpointsGrow : (D : Type 0) → (D → ℕ) → Type 0
CheckpointsGrow D faults = (old new : StoreView D) (pass : ℕ) (reply : CheckpointReply) →
    IsStore old → MakesCheckpoint faults old pass reply new →
    entries_of new ≡ entries_of old ++ checkpoint_gives old.stop pass reply
