-- What steps and checkpoints add to the entries of a store.
use Rattle.std.proofs.Common.{◌≡◌, ◌∙◌, ℕ, List, [], ◌∷◌, ◌++◌, Option, Some, None, sym, ap, append-nil}
use Rattle.std.specs.Prelude.{ℤ}
use Rattle.access_history.specs.declared.request.StepRequest.{StepRequest}
use Rattle.pcfs_store.specs.declared.reply.StoreReply.{StoreReply}
use Rattle.pcfs_store.specs.declared.reply.CheckpointReply.{CheckpointReply}
use Rattle.pcfs_store.specs.declared.reply.CheckpointReply.TheVariants as checkpoint_replies
use Rattle.pcfs_store.specs.Entries.{StoreEntry, happened, stopped, entries_of}
use Rattle.pcfs_store.specs.StoreView.{StoreView, IsStore}
use Rattle.pcfs_store.specs.Steps.{Steps}
use Rattle.pcfs_store.specs.Steps as steps
use Rattle.pcfs_store.specs.Checkpoints.{MakesCheckpoint}
use Rattle.pcfs_store.specs.Checkpoints as makes
use Rattle.pcfs_store.proofs.EntryLemmas.{entries-kept, entries-made, entries-stopped}
use Rattle.shared_store.specs.Growing.{StepGives, nothing, an_event, no_room, the_mark, had_mark, no_memory, checkpoint_gives}

pub steps_grow : {D : Type 0} (faults : D → ℕ) (old new : StoreView D) (pass : ℕ) (clock : ℤ) (request : StepRequest) (reply : StoreReply) → IsStore old → Steps faults old pass clock request reply new →
    (given : List StoreEntry) × StepGives old pass clock request reply given × (entries_of new ≡ entries_of old ++ given)
steps_grow faults old _ pass clock request _ store (steps.answered reply running answers) = ([], nothing reply answers, sym (append-nil (entries_of old)))
steps_grow faults old _ pass clock request _ store (steps.kept reply event active running answers room stood) = (happened event ∷ [], an_event reply event answers, entries-kept old running event active store)
steps_grow faults old _ pass clock request _ store (steps.full reply event running answers is_full) = ([], no_room, sym (append-nil (entries_of old)))
steps_grow faults old _ pass clock request _ store (steps.failed reply event active running answers room risen) = (stopped pass (Some event) ∷ [], the_mark reply event running answers, entries-stopped old running active old.other pass (Some event))
steps_grow faults old _ pass clock request _ store (steps.stopped earlier is) = ([], had_mark earlier is, sym (append-nil (entries_of old)))
steps_grow faults old _ pass clock request _ store (steps.without_memory running) = ([], no_memory, sym (append-nil (entries_of old)))

module _ {D : Type 0} (old : StoreView D) (pass : ℕ) (reply : CheckpointReply) where
  -- what is added, by whether the store was stopped
  by_stop : (stop : Option ℕ) (entries : List StoreEntry) → old.stop ≡ stop → entries ≡ entries_of old ++ checkpoint_gives stop pass reply → entries ≡ entries_of old ++ checkpoint_gives old.stop pass reply
  by_stop stop entries is same = same ∙ ap (λ (o : Option ℕ). entries_of old ++ checkpoint_gives o pass reply) (sym is)

pub checkpoints_grow : {D : Type 0} (faults : D → ℕ) (old new : StoreView D) (pass : ℕ) (reply : CheckpointReply) → IsStore old → MakesCheckpoint faults old pass reply new →
    entries_of new ≡ entries_of old ++ checkpoint_gives old.stop pass reply
checkpoints_grow faults old _ pass _ store (makes.made active running fits stood) =
    by_stop old pass checkpoint_replies.Checkpointed None (entries_of (makes.with_checkpoint old pass active)) running (entries-made old running pass active store)
checkpoints_grow faults old _ pass _ store (makes.full running over) = by_stop old pass checkpoint_replies.Full None (entries_of old) running (sym (append-nil (entries_of old)))
checkpoints_grow faults old _ pass _ store (makes.failed other running fits risen) =
    by_stop old pass checkpoint_replies.Stopped None (entries_of (record old { other = other; stop = Some pass; met = None })) running (entries-stopped old running old.active other pass None)
checkpoints_grow faults old _ pass _ store (makes.stopped earlier is) = by_stop old pass checkpoint_replies.Stopped (Some earlier) (entries_of old) is (sym (append-nil (entries_of old)))
checkpoints_grow faults old _ pass _ store (makes.without_memory running) = by_stop old pass checkpoint_replies.NoMemory None (entries_of old) running (sym (append-nil (entries_of old)))
