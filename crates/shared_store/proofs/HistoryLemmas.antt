-- Entries under their numbers, and without them.
use Rattle.std.proofs.Common.{◌≡◌, ◌∙◌, ℕ, List, [], ◌∷◌, ◌++◌, map, Option, Some, None, refl, sym, ap, subst}
use Rattle.std.specs.List.{AllByRecursion}
use Rattle.std.proofs.lemmas.List.{map-append}
use mathlib.Core.List.{IsPrefix}
use Rattle.tree_lock.specs.Entries.{AllOfNumber}
use Rattle.journal_records.specs.declared.event.Event.{Event}
use Rattle.access_history.proofs.PassLemmas.{pass_none}
use Rattle.journal_records.specs.EventSpelling.{IsReadEvent}
use Rattle.pcfs_store.specs.Entries.{StoreEntry, happened, checkpointed, stopped, stop_entries, merged}
use Rattle.pcfs_store.specs.declared.checkpoints.Checkpoint.{Checkpoint}
use Rattle.pcfs_store.specs.StoreView.{StoreView}
use Rattle.session_history.specs.Passes.{AllOfPass}
use Rattle.shared_store.specs.declared.entry.LockEntry.{LockEntry}
use Rattle.shared_store.specs.declared.entry.LockEntry.TheVariants.{Opened, Happened, Checkpointed, Stopped}
use Rattle.shared_store.specs.LockHistory.{numbered_entry, numbered, lock_history, lock_entries, bare}

-- each entry of a store that was read has pass 0
read_numbers : (D : Type 0) (events : List Event) (stop : Option ℕ) (met : Option Event) → AllByRecursion IsReadEvent events → stop ≡ None → AllOfNumber 0 (numbered {D = D} (map happened events ++ stop_entries stop met))
read_numbers D [] None met each running = tt
read_numbers D [] (Some pass) met each running = absurd cc
read_numbers D (event ∷ events) stop met each running = (pass_none event each.0.erased, read_numbers D events stop met each.1 running)

pub opened_numbers : {D : Type 0} (s : StoreView D) → AllByRecursion IsReadEvent s.events → s.checkpoints ≡ [] → s.stop ≡ None → AllOfNumber 0 (lock_entries (record { store = s; opening = s }))
opened_numbers {D = D} s each none running =
    (refl, subst (λ (checkpoints : List Checkpoint). AllOfNumber 0 (numbered {D = D} (merged 0 s.events checkpoints ++ stop_entries s.stop s.met))) (sym none) (read_numbers D s.events s.stop s.met each running))

bare_all : (D : Type 0) (entries : List StoreEntry) → bare (numbered {D = D} entries) ≡ entries
bare_all D [] = refl
bare_all D (happened event ∷ entries) = ap (λ (l : List StoreEntry). happened event ∷ l) (bare_all D entries)
bare_all D (checkpointed pass ∷ entries) = ap (λ (l : List StoreEntry). checkpointed pass ∷ l) (bare_all D entries)
bare_all D (stopped pass met ∷ entries) = ap (λ (l : List StoreEntry). stopped pass met ∷ l) (bare_all D entries)

pub numbered_both : (D : Type 0) (xs ys : List StoreEntry) → numbered {D = D} (xs ++ ys) ≡ numbered {D = D} xs ++ numbered {D = D} ys
numbered_both D xs ys = map-append (numbered_entry {D = D}) xs ys

pub all_numbered : (D : Type 0) (pass : ℕ) (entries : List StoreEntry) → AllOfPass pass entries → AllOfNumber pass (numbered {D = D} entries)
all_numbered D pass [] all = tt
all_numbered D pass (happened event ∷ entries) all = (all.0, all_numbered D pass entries all.1)
all_numbered D pass (checkpointed other ∷ entries) all = (all.0, all_numbered D pass entries all.1)
all_numbered D pass (stopped other met ∷ entries) all = (all.0, all_numbered D pass entries all.1)

module _ {D : Type 0} where
  bare_front : (entries : List StoreEntry) (rest : List (ℕ × LockEntry D)) → bare (numbered entries ++ rest) ≡ entries ++ bare rest
  bare_front [] rest = refl
  bare_front (happened event ∷ entries) rest = ap (λ (l : List StoreEntry). happened event ∷ l) (bare_front entries rest)
  bare_front (checkpointed pass ∷ entries) rest = ap (λ (l : List StoreEntry). checkpointed pass ∷ l) (bare_front entries rest)
  bare_front (stopped pass met ∷ entries) rest = ap (λ (l : List StoreEntry). stopped pass met ∷ l) (bare_front entries rest)

  -- ---- how a history begins

  abbrev opened_in : StoreView D → LockEntry D → StoreView D
  opened_in default (Opened opening) = opening
  opened_in default (Happened event) = default
  opened_in default (Checkpointed pass) = default
  opened_in default (Stopped pass met) = default

  abbrev opened_of : StoreView D → List (ℕ × LockEntry D) → StoreView D
  opened_of default [] = default
  opened_of default (e ∷ es) = opened_in default e.1

  abbrev tail_of : List (ℕ × LockEntry D) → List (ℕ × LockEntry D)
  tail_of [] = []
  tail_of (e ∷ es) = es

  -- a history that begins with another was opened alike, and has its entries first
  pub opened_alike : (first opening : StoreView D) (seen entries : List StoreEntry) → IsPrefix (lock_history first seen) (lock_history opening entries) → first ≡ opening
  opened_alike first opening seen entries begins = ap (opened_of first) begins.1

  pub entries_after : (first opening : StoreView D) (seen entries : List StoreEntry) → (begins : IsPrefix (lock_history first seen) (lock_history opening entries)) → entries ≡ seen ++ bare begins.0
  entries_after first opening seen entries begins = sym (bare_all D entries) ∙ sym (ap (λ (l : List (ℕ × LockEntry D)). bare (tail_of l)) begins.1) ∙ bare_front seen begins.0
