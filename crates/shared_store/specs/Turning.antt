-- One turn at a shared store (this project's own).
use Rattle.std.specs.Prelude.{◌≡◌, ℕ, ℤ, List, ◌++◌, Some, None}
use Rattle.pcfs_ports.specs.Faults.{HasRisen}
use Rattle.pcfs_store.specs.declared.reply.StoreReply.{StoreReply}
use Rattle.pcfs_store.specs.declared.reply.StoreReply.TheVariants as stores
use Rattle.pcfs_store.specs.declared.reply.CheckpointReply.{CheckpointReply}
use Rattle.pcfs_store.specs.declared.reply.CheckpointReply.TheVariants as checkpoints
use Rattle.pcfs_store.specs.Entries.{StoreEntry, root_of, entries_of}
use Rattle.pcfs_store.specs.StoreView.{StoreView, NoneFailed}
use Rattle.session_history.specs.declared.request.TurnRequest.{TurnRequest}
use Rattle.session_history.specs.declared.request.TurnRequest.TheVariants as requests
use Rattle.session_history.specs.declared.reply.TurnReply.{TurnReply}
use Rattle.session_history.specs.declared.reply.TurnReply.TheVariants as turn_replies
use Rattle.session_history.specs.Turn.{StorePass, Turn}
use Rattle.shared_store.specs.GoesOn.{HasCountRisen}
use Rattle.shared_store.specs.OpenedView.{OpenedView}

-- what a turn replies for which the store says this
abbrev pub turn_reply : StoreReply → TurnReply
turn_reply (stores.Step reply) = turn_replies.Step reply
turn_reply stores.Full = turn_replies.Full
turn_reply stores.Stopped = turn_replies.Stopped
turn_reply stores.NoMemory = turn_replies.NoMemory

-- and what it replies for which a checkpoint of the store says this
abbrev pub checkpoint_reply : CheckpointReply → TurnReply
checkpoint_reply checkpoints.Checkpointed = turn_replies.Checkpointed
checkpoint_reply checkpoints.Full = turn_replies.Full
checkpoint_reply checkpoints.Stopped = turn_replies.Stopped
checkpoint_reply checkpoints.NoMemory = turn_replies.NoMemory

-- the pass of this number at a store that was opened so
abbrev pub pass_at : {D : Type 0} → StoreView D → ℕ → StorePass
pass_at opening number = record { root = root_of opening; number = number }

-- If a turn that asks this stopped the store, the count of a disk rose in it: in a step that of the
-- disk with the area, in a checkpoint that of the other. No other turn stops it.
abbrev pub HasTurnFailed : {D : Type 0} → (D → ℕ) → TurnRequest → StoreView D → StoreView D → Type 0
HasTurnFailed faults (requests.Step request) before after = HasRisen (faults before.active) (faults after.active)
HasTurnFailed faults (requests.Cite numbers) before after = ⊥
HasTurnFailed faults requests.Checkpoint before after = HasRisen (faults before.other) (faults after.other)
HasTurnFailed faults (requests.Login who nonce signature) before after = ⊥

-- A turn of the pass took the store from `before` to `after`: it added entries at the end, and its
-- reply is that of a turn which finds those before. Unless the store is stopped then, no call of a
-- disk failed in it; if it was this turn that stopped the store, a count rose in it.
pub record HasTurned {D : Type 0} (faults : D → ℕ) (gives : List StoreEntry → ℤ → Type 0) (request : TurnRequest)
    (before : OpenedView D) (pass : ℕ) (after : OpenedView D) (reply : TurnReply) : Type 0 where
  pub given : List StoreEntry
  pub opening_stays : after.opening ≡ before.opening
  pub grows : entries_of after.store ≡ entries_of before.store ++ given
  pub turn : Turn gives (pass_at before.opening pass) (entries_of before.store) request reply given
  pub none_failed : after.store.stop ≡ None → NoneFailed faults before.store after.store
  pub stops : (stopper : ℕ) → before.store.stop ≡ None → after.store.stop ≡ Some stopper →
      (stopper ≡ pass) × HasTurnFailed faults request before.store after.store

-- What a turn does at the store: so it turned; and if the store is stopped then, in this turn or in
-- an earlier one, a count has risen since the opening.
pub record TakesTurn {D : Type 0} (faults : D → ℕ) (gives : List StoreEntry → ℤ → Type 0) (request : TurnRequest)
    (before : OpenedView D) (pass : ℕ) (after : OpenedView D) (reply : TurnReply) : Type 0 where
  pub turned : HasTurned faults gives request before pass after reply
  pub failed : (stopper : ℕ) → after.store.stop ≡ Some stopper →
      HasCountRisen faults after.opening after.store
