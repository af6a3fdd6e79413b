-- The entries of a shared store, as a lock keeps them: each under the number of the pass in whose
-- turn it was added (this project's own).
use Rattle.std.specs.Prelude.{ℕ, List, [], ◌∷◌, map}
use Rattle.pcfs_store.specs.Entries.{StoreEntry, happened, checkpointed, stopped, entries_of}
use Rattle.pcfs_store.specs.StoreView.{StoreView}
use Rattle.journal_records.specs.Passes.{event_pass}
use Rattle.shared_store.specs.OpenedView.{OpenedView}
use Rattle.shared_store.specs.declared.entry.LockEntry.{LockEntry}
use Rattle.shared_store.specs.declared.entry.LockEntry.TheVariants.{Opened, Happened, Checkpointed, Stopped}

module _ {D : Type 0} where
  abbrev pub numbered_entry : StoreEntry → ℕ × LockEntry D
  numbered_entry (happened event) = (event_pass event, Happened event)
  numbered_entry (checkpointed pass) = (pass, Checkpointed pass)
  numbered_entry (stopped pass met) = (pass, Stopped pass met)

  abbrev pub numbered : List StoreEntry → List (ℕ × LockEntry D)
  numbered entries = map numbered_entry entries

  -- the history of a store that was opened so, with these entries since the root
  abbrev pub lock_history : StoreView D → List StoreEntry → List (ℕ × LockEntry D)
  lock_history opening entries = (0, Opened opening) ∷ numbered entries

  abbrev pub lock_entries : OpenedView D → List (ℕ × LockEntry D)
  lock_entries s = lock_history s.opening (entries_of s.store)

  -- an entry without its number, before others; the opening is none of the entries after the root
  abbrev pub before_others : LockEntry D → List StoreEntry → List StoreEntry
  before_others (Opened opening) others = others
  before_others (Happened event) others = happened event ∷ others
  before_others (Checkpointed pass) others = checkpointed pass ∷ others
  before_others (Stopped pass met) others = stopped pass met ∷ others

  -- the entries after the root, without their numbers
  abbrev pub bare : List (ℕ × LockEntry D) → List StoreEntry
  bare [] = []
  bare (e ∷ es) = before_others e.1 (bare es)
