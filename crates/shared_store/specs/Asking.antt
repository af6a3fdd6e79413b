-- What a pass knows after a turn at a shared store (this project's own).
use Rattle.std.specs.Prelude.{◌≡◌, ℕ, ℤ, ◌-◌, List, ◌++◌, length, Some}
use mathlib.Core.List.{IsPrefix}
use Rattle.tree_lock.specs.Seen.{PassView, one_more}
use Rattle.pcfs_store.specs.Entries.{StoreEntry, entries_of}
use Rattle.pcfs_store.specs.StoreView.{StoreView}
use Rattle.session_history.specs.declared.request.TurnRequest.{TurnRequest}
use Rattle.session_history.specs.declared.reply.TurnReply.{TurnReply}
use Rattle.session_history.specs.Turn.{Turn, TurnPlaced}
use Rattle.shared_store.specs.declared.entry.LockEntry.{LockEntry}
use Rattle.shared_store.specs.GoesOn.{HasCountRisen}
use Rattle.shared_store.specs.LockHistory.{numbered, lock_history}
use Rattle.shared_store.specs.Turning.{pass_at}

module _ {D : Type 0} where
  -- how many entries after the root the pass has seen
  abbrev pub entries_seen : PassView (LockEntry D) → ℕ
  entries_seen pass = length pass.seen - 1

  -- what the pass has seen is the history of a store that was opened so, up to some entry
  pub record HasHistory (opening : StoreView D) (pass : PassView (LockEntry D)) : Type 0 where
    pub entries : List StoreEntry
    pub seen_is : pass.seen ≡ lock_history opening entries

  -- From one moment of a pass to a later one: it is the same pass at the same lock; it has seen
  -- more, of the same store; and its own entries grew by those that it was given.
  pub record PassGoesOn (old new : PassView (LockEntry D)) (given : List StoreEntry) : Type 0 where
    pub lock : new.lock ≡ old.lock
    pub number : new.number ≡ old.number
    pub seen : IsPrefix old.seen new.seen
    pub history : (opening : StoreView D) → HasHistory opening old → HasHistory opening new
    pub own : new.own ≡ old.own ++ numbered given

  -- this holds of each history that begins with what the pass has seen: of the store as it was
  -- opened, and the entries since
  abbrev pub InEachHistory : PassView (LockEntry D) → (StoreView D → List StoreEntry → Type 0) →
      Type 0
  InEachHistory pass P = (opening : StoreView D) (entries : List StoreEntry) →
      IsPrefix pass.seen (lock_history opening entries) → P opening entries

  -- The pass took a turn at the end of what it has seen now: of a store that was opened as `root`,
  -- it found the entries `found`, and all that it had seen before was among them; and it added the
  -- given ones. So it is in each history that
  -- begins with that.
  pub record HasAsked (gives : List StoreEntry → ℤ → Type 0) (request : TurnRequest) (old new : PassView (LockEntry D)) (reply : TurnReply) : Type 0 where
    pub given : List StoreEntry
    pub goes_on : PassGoesOn old new given
    pub root : StoreView D
    pub found : List StoreEntry
    pub found_seen : IsPrefix old.seen (lock_history root found)
    pub seen_is : new.seen ≡ lock_history root (found ++ given)
    pub turn : Turn gives (pass_at root old.number) found request reply given
    pub turns : new.turns ≡ one_more old.turns
    pub placed : InEachHistory new (λ opening entries. TurnPlaced gives (pass_at opening old.number)
        entries (entries_seen old) request reply (entries_seen new) given)

  -- The pass has seen that a disk failed: of a store that was opened as `root` and left as `after`,
  -- it has seen all entries, of which the last is the mark of the turn of the pass of this number;
  -- and a count has risen since the opening.
  pub record HasSeenFault (faults : D → ℕ) (pass : PassView (LockEntry D)) : Type 0 where
    pub root : StoreView D
    pub after : StoreView D
    pub number : ℕ
    pub seen : IsPrefix (lock_history root (entries_of after)) pass.seen
    pub stop : after.stop ≡ Some number
    pub since : HasCountRisen faults root after
