-- What the sessions of connections added to a store (this project's own).
use Rattle.std.specs.Prelude.{◌≡◌, ℕ, ◌≤◌, List, [], ◌∷◌, ◌++◌, map, length, eqb, Option, Some, None}
use Rattle.std.specs.List.{AllByRecursion, IsDistinct}
use Rattle.tree_lock.specs.Merge.{Merges}
use Rattle.pcfs_store.specs.Entries.{Root, StoreEntry, happened, checkpointed, stopped, root_of, entries_of}
use Rattle.pcfs_store.specs.StoreView.{StoreView}
use Rattle.session_history.specs.Passes.{AllOfPass}
use Rattle.session_history.specs.Turn.{StorePass}
use Rattle.session_service.specs.Connections.{AreOfConnections}

-- which entries are those of a pass, in a whole history: what it was given in the turns of the
-- connection that it attended
abbrev pub PassEntries : Type 1
PassEntries = StorePass → List StoreEntry → List StoreEntry → Type 0

-- These entries were added to the first ones, of a store with this root, in the turns of the
-- connections that were attended. Passes have numbers of their own from 1 on. There are as many as
-- connections were attended, and no more than `count`; each is that of one of these: its entries are
-- in the whole history those of its lines, in a session, or of its messages, in 9P2000, exactly what
-- was added in their turns. A pass has the entries of its turns, which carry its number, and all
-- that were added are a merge of these lists.
pub record AreOfPasses (is_of : PassEntries) (root : Root) (first : List StoreEntry) (attended count : ℕ) (added : List StoreEntry) : Type 0 where
  pub passes : List (ℕ × List StoreEntry)
  pub distinct : IsDistinct eqb (map (λ p. p.0) passes)
  pub within : AllByRecursion (λ p. (1 ≤ p.0) × (p.0 ≤ length passes)) passes
  pub own : AllByRecursion (λ p. AllOfPass p.0 p.1) passes
  pub merged : Merges (map (λ p. p.1) passes) added
  pub of_connections : AreOfConnections (λ number own. is_of (record { root = root; number = number }) (first ++ added) own) attended passes
  pub every : length passes ≡ attended
  pub few : length passes ≤ count

-- from one store to another the entries grew by those of the passes of connections
pub record IsGrown {D : Type 0} (is_of : PassEntries) (attended count : ℕ) (old new : StoreView D) : Type 0 where
  pub added : List StoreEntry
  pub parts : entries_of new ≡ entries_of old ++ added
  pub of_passes : AreOfPasses is_of (root_of old) (entries_of old) attended count added

-- the pass in whose turn a disk failed, if the mark of that is among the entries
abbrev pub stop_among : List StoreEntry → Option ℕ
stop_among [] = None
stop_among (happened event ∷ entries) = stop_among entries
stop_among (checkpointed pass ∷ entries) = stop_among entries
stop_among (stopped pass met ∷ entries) = Some pass
