-- Laws of shared stores.
use Rattle.std.specs.Prelude.{◌≡◌, ℤ, List}
use mathlib.Core.List.{IsPrefix}
use Rattle.tree_lock.specs.Seen.{PassView, DoormanView}
use Rattle.tree_lock.specs.Closing.{IsClosed, IsMadeAfter}
use Rattle.pcfs_store.specs.Entries.{StoreEntry, entries_of}
use Rattle.pcfs_store.specs.StoreView.{StoreView}
use Rattle.session_history.specs.declared.request.TurnRequest.{TurnRequest}
use Rattle.session_history.specs.declared.reply.TurnReply.{TurnReply}
use Rattle.shared_store.specs.declared.entry.LockEntry.{LockEntry}
use Rattle.shared_store.specs.OpenedView.{OpenedView}
use Rattle.shared_store.specs.LockHistory.{lock_entries}
use Rattle.shared_store.specs.Asking.{HasHistory, HasAsked}
use Rattle.shared_store.specs.Merged.{AreMerged}

-- of a closed lock the store was opened as it was before, and its entries are merged
abbrev pub ClosedAreMerged : Type 0 → Type 0
ClosedAreMerged D = (first last : OpenedView D) (door : DoormanView (LockEntry D)) →
    door.opening ≡ lock_entries first → IsClosed door (lock_entries last) →
    (last.opening ≡ first.opening) ×
    AreMerged (entries_of first.store) door.retired (entries_of last.store)

-- A turn finds what was told before. When something was told under a pass, it had seen these
-- entries of a store; if another pass has seen as much when it takes a turn, the turn finds the
-- same store with all these entries, also if it keeps nothing.
abbrev pub TurnsFindWhatWasTold : Type 0 → (List StoreEntry → ℤ → Type 0) → Type 0
TurnsFindWhatWasTold D gives = (told old new : PassView (LockEntry D)) (opening : StoreView D) (request : TurnRequest) (reply : TurnReply) →
    (h : HasHistory opening told) → IsPrefix told.seen old.seen →
    (a : HasAsked gives request old new reply) →
    (opening ≡ a.root) × IsPrefix h.entries a.found

-- So does a turn of a pass that was made after the other had left: it finds the same store with all
-- these entries, however much was said since.
abbrev pub LaterPassesFindWhatWasTold : Type 0 → (List StoreEntry → ℤ → Type 0) → Type 0
LaterPassesFindWhatWasTold D gives = (told made old new : PassView (LockEntry D)) (opening : StoreView D) (request : TurnRequest) (reply : TurnReply) →
    (h : HasHistory opening told) → IsMadeAfter told made → IsPrefix made.seen old.seen →
    (a : HasAsked gives request old new reply) →
    (opening ≡ a.root) × IsPrefix h.entries a.found
