-- What the entries of a shared store are when all passes were taken in (this project's own).
use Rattle.std.specs.Prelude.{◌≡◌, List, ◌++◌, map}
use Rattle.std.specs.List.{AllByRecursion}
use Rattle.tree_lock.specs.Merge.{Merges}
use Rattle.tree_lock.specs.Seen.{Retired}
use Rattle.pcfs_store.specs.Entries.{StoreEntry}
use Rattle.session_history.specs.Passes.{AllOfPass}
use Rattle.shared_store.specs.declared.entry.LockEntry.{LockEntry}
use Rattle.shared_store.specs.LockHistory.{bare}

-- The entries are those with which the lock was made, and then a merge of the passes' own entries,
-- of which each carries its pass's number.
pub record AreMerged {D : Type 0} (first : List StoreEntry) (retired : List (Retired (LockEntry D))) (entries : List StoreEntry) : Type 0 where
  pub rest : List StoreEntry
  pub parts : entries ≡ first ++ rest
  pub merged : Merges (map (λ (r : Retired (LockEntry D)). bare r.1) retired) rest
  pub of_passes : AllByRecursion (λ (r : Retired (LockEntry D)). AllOfPass r.0 (bare r.1)) retired
