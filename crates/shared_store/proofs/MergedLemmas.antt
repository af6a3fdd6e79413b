-- A merge of numbered entries is one of the entries without their numbers.
use Rattle.std.proofs.Common.{◌≡◌, ◌∙◌, ℕ, zero, suc, List, [], ◌∷◌, ◌++◌, map, Some, refl, sym, ap, subst}
use Rattle.std.specs.Prelude.{slice_get, slice_set}
use Rattle.std.specs.List.{AllByRecursion}
use mathlib.Core.List.{IsPrefix}
use mathlib.Core.Logic.{dite}
use native.Mathlib.Decide.{ℕ_discrete}
use Rattle.tree_lock.specs.Entries.{of_number}
use Rattle.tree_lock.specs.Seen.{DoormanView, Retired, AreOwn}
use Rattle.tree_lock.specs.Closing.{IsClosed}
use Rattle.tree_lock.specs.Merge.{Merges, ends, takes, IsMerge}
use Rattle.tree_lock.proofs.EntryLemmas.{of_number-here, of_number-else}
use Rattle.tree_lock.proofs.MergeLemmas.{closed_merges}
use Rattle.pcfs_store.specs.Entries.{StoreEntry, happened, checkpointed, stopped, entries_of}
use Rattle.pcfs_store.specs.StoreView.{StoreView}
use Rattle.journal_records.specs.Passes.{event_pass}
use Rattle.session_history.specs.Passes.{AllOfPass}
use Rattle.shared_store.specs.declared.entry.LockEntry.{LockEntry}
use Rattle.shared_store.specs.declared.entry.LockEntry.TheVariants.{Opened, Happened, Checkpointed, Stopped}
use Rattle.shared_store.specs.OpenedView.{OpenedView}
use Rattle.shared_store.specs.LockHistory.{numbered, lock_history, lock_entries, before_others, bare}
use Rattle.shared_store.specs.Merged.{AreMerged}
use Rattle.shared_store.proofs.HistoryLemmas.{opened_alike, entries_after}

set_same : (lists : List (List StoreEntry)) (k : ℕ) (l : List StoreEntry) → slice_get lists k ≡ Some l → slice_set lists k l ≡ lists
set_same [] k l found = refl
set_same (first ∷ lists) zero l found = let both : Some first ≡ Some l = found in let same : first ≡ l = cc in ap (λ (x : List StoreEntry). x ∷ lists) (sym same)
set_same (first ∷ lists) (suc k) l found = ap (λ (ls : List (List StoreEntry)). first ∷ ls) (set_same lists k l found)

module _ {D : Type 0} where
  all_bare : (lists : List (List (ℕ × LockEntry D))) → AllByRecursion (λ l. l ≡ []) lists → AllByRecursion (λ l. l ≡ []) (map bare lists)
  all_bare [] none = tt
  all_bare (l ∷ lists) none = (ap bare none.0, all_bare lists none.1)

  get_bare : (lists : List (List (ℕ × LockEntry D))) (k : ℕ) (l : List (ℕ × LockEntry D)) → slice_get lists k ≡ Some l → slice_get (map bare lists) k ≡ Some (bare l)
  get_bare [] k l found = absurd cc
  get_bare (first ∷ lists) zero l found = let both : Some first ≡ Some l = found in let same : first ≡ l = cc in ap (λ (x : List (ℕ × LockEntry D)). Some (bare x)) same
  get_bare (first ∷ lists) (suc k) l found = get_bare lists k l found

  set_bare : (lists : List (List (ℕ × LockEntry D))) (k : ℕ) (l : List (ℕ × LockEntry D)) → map bare (slice_set lists k l) ≡ slice_set (map bare lists) k (bare l)
  set_bare [] k l = refl
  set_bare (first ∷ lists) zero l = refl
  set_bare (first ∷ lists) (suc k) l = ap (λ (ls : List (List StoreEntry)). bare first ∷ ls) (set_bare lists k l)

  -- the first element of one of the lists, without its number, if it is no opening
  taken : (lists : List (List (ℕ × LockEntry D))) (k : ℕ) (e : LockEntry D) (l : List (ℕ × LockEntry D)) (rest : List StoreEntry) → slice_get (map bare lists) k ≡ Some (before_others e (bare l)) → Merges (slice_set (map bare lists) k (bare l)) rest →
      Merges (map bare lists) (before_others e rest)
  taken lists k (Opened opening) l rest found merged = subst (λ (ls : List (List StoreEntry)). Merges ls rest) (set_same (map bare lists) k (bare l) found) merged
  taken lists k (Happened event) l rest found merged = takes k found merged
  taken lists k (Checkpointed pass) l rest found merged = takes k found merged
  taken lists k (Stopped pass met) l rest found merged = takes k found merged

  merges_bare : (lists : List (List (ℕ × LockEntry D))) (xs : List (ℕ × LockEntry D)) → Merges lists xs → Merges (map bare lists) (bare xs)
  merges_bare lists _ (ends none) = ends (all_bare lists none)
  merges_bare lists _ (takes {x = x} {xs = xs} {ys = ys} k found merged) =
      taken lists k x.1 xs (bare ys) (get_bare lists k (x ∷ xs) found) (subst (λ (ls : List (List StoreEntry)). Merges ls (bare ys)) (set_bare lists k xs) (merges_bare (slice_set lists k xs) ys merged))

  both_maps : (retired : List (Retired (LockEntry D))) → map bare (map (λ (r : Retired (LockEntry D)). r.1) retired) ≡ map (λ (r : Retired (LockEntry D)). bare r.1) retired
  both_maps [] = refl
  both_maps (r ∷ rs) = ap (λ (ls : List (List StoreEntry)). bare r.1 ∷ ls) (both_maps rs)

  -- ---- entries under a number carry it

  under : (n k : ℕ) (e : LockEntry D) (es : List (ℕ × LockEntry D)) → (k ≡ n → AllOfPass n (before_others e (bare (of_number n es)))) → AllOfPass n (bare (of_number n es)) → AllOfPass n (bare (of_number n ((k, e) ∷ es)))
  under n k e es here rest = dite (ℕ_discrete k n)
      (λ is. subst (λ (l : List (ℕ × LockEntry D)). AllOfPass n (bare l)) (sym (of_number-here n (k, e) es is)) (here is))
      (λ ne. subst (λ (l : List (ℕ × LockEntry D)). AllOfPass n (bare l)) (sym (of_number-else n (k, e) es ne)) rest)

own_entries : (D : Type 0) (n : ℕ) (entries : List StoreEntry) → AllOfPass n (bare (of_number n (numbered {D = D} entries)))
own_entries D n [] = tt
own_entries D n (happened event ∷ entries) = under n (event_pass event) (Happened event) (numbered {D = D} entries) (λ is. (is, own_entries D n entries)) (own_entries D n entries)
own_entries D n (checkpointed pass ∷ entries) = under n pass (Checkpointed pass) (numbered {D = D} entries) (λ is. (is, own_entries D n entries)) (own_entries D n entries)
own_entries D n (stopped pass met ∷ entries) = under n pass (Stopped pass met) (numbered {D = D} entries) (λ is. (is, own_entries D n entries)) (own_entries D n entries)

module _ {D : Type 0} where
  own_history : (n : ℕ) (opening : StoreView D) (entries : List StoreEntry) → AllOfPass n (bare (of_number n (lock_history opening entries)))
  own_history n opening entries = under n 0 (Opened opening) (numbered entries) (λ is. own_entries D n entries) (own_entries D n entries)

  all_own : (opening : StoreView D) (entries : List StoreEntry) (retired : List (Retired (LockEntry D))) → AreOwn (lock_history opening entries) retired → AllByRecursion (λ (r : Retired (LockEntry D)). AllOfPass r.0 (bare r.1)) retired
  all_own opening entries [] own = tt
  all_own opening entries (r ∷ rs) own = (subst (λ (l : List (ℕ × LockEntry D)). AllOfPass r.0 (bare l)) own.0 (own_history r.0 opening entries), all_own opening entries rs own.1)

  pub closed_are_merged : (first last : OpenedView D) (door : DoormanView (LockEntry D)) → door.opening ≡ lock_entries first → IsClosed door (lock_entries last) →
      (last.opening ≡ first.opening) × AreMerged (entries_of first.store) door.retired (entries_of last.store)
  closed_are_merged first last door is closed =
      let m : IsMerge door.opening door.retired (lock_entries last) = closed_merges door (lock_entries last) closed in
      let parts : lock_history first.opening (entries_of first.store) ++ m.rest ≡ lock_history last.opening (entries_of last.store) = ap (λ (l : List (ℕ × LockEntry D)). l ++ m.rest) (sym is) ∙ sym m.is in
      let begins : IsPrefix (lock_history first.opening (entries_of first.store)) (lock_history last.opening (entries_of last.store)) = (m.rest, parts) in (
        sym (opened_alike first.opening last.opening (entries_of first.store) (entries_of last.store) begins),
        record {
          rest = bare m.rest;
          parts = entries_after first.opening last.opening (entries_of first.store) (entries_of last.store) begins;
          merged = subst (λ (ls : List (List StoreEntry)). Merges ls (bare m.rest)) (both_maps door.retired) (merges_bare (map (λ (r : Retired (LockEntry D)). r.1) door.retired) m.rest m.merged);
          of_passes = all_own last.opening (entries_of last.store) door.retired closed.knows.own;
        },
      )
