-- Each entry that was added has its line.
use Rattle.std.proofs.Common.{◌≡◌, ℕ, zero, suc, List, [], ◌∷◌, map, Some, sym, subst}
use Rattle.std.specs.Prelude.{slice_get, slice_set}
use Rattle.std.specs.List.{AllByRecursion}
use Rattle.tree_lock.specs.Merge.{Merges, ends, takes}
use Rattle.pcfs_store.specs.Entries.{Root, StoreEntry}
use Rattle.session_history.specs.Passes.{AllOfPass}
use Rattle.session_history.specs.SessionState.{guest_with}
use Rattle.session_history.specs.Laws.{IsByAccepted, IsAskedFor, AreAskedFor}
use Rattle.session_service.specs.Sessions.{SessionSources, AreOfSession}
use Rattle.session_service.specs.Connections.{AreOfConnections, no_more, was_attended, was_not_attended}
use Rattle.pcfs_run.specs.Laws.{HasLine}

-- ---- what holds of all entries of lists holds of a merge of them

module _ (P : StoreEntry → Type 0) where
  abbrev Each : List (List StoreEntry) → Type 0
  Each lists = AllByRecursion (λ l. AllByRecursion P l) lists

  each_get : (lists : List (List StoreEntry)) (k : ℕ) (l : List StoreEntry) → Each lists → slice_get lists k ≡ Some l → AllByRecursion P l
  each_get [] k l all found = absurd cc
  each_get (first ∷ lists) zero l all found = let both : Some first ≡ Some l = found in let same : first ≡ l = cc in subst (λ (x : List StoreEntry). AllByRecursion P x) same all.0
  each_get (first ∷ lists) (suc k) l all found = each_get lists k l all.1 found

  each_set : (lists : List (List StoreEntry)) (k : ℕ) (l : List StoreEntry) → Each lists → AllByRecursion P l → Each (slice_set lists k l)
  each_set [] k l all one = tt
  each_set (first ∷ lists) zero l all one = (one, all.1)
  each_set (first ∷ lists) (suc k) l all one = (all.0, each_set lists k l all.1 one)

  pub merged_all : (lists : List (List StoreEntry)) (all : List StoreEntry) → Merges lists all → Each lists → AllByRecursion P all
  merged_all lists _ (ends is) each = tt
  merged_all lists _ (takes {x = x} {xs = xs} {ys = ys} k found merged) each =
      let here = each_get lists k (x ∷ xs) each found in
      (here.0, merged_all (slice_set lists k xs) ys merged (each_set lists k xs each here.1))

-- ---- the entries of a session

module _ (sources : SessionSources) (root : Root) (history : List StoreEntry) where
  lines_of_entries : (number : ℕ) (nonce : List ℕ) (from : ℕ) (lines : List (List ℕ)) → sources.may_say number nonce lines → (entries : List StoreEntry) → AllOfPass number entries →
      AreAskedFor sources.gives (record { root = root; number = number }) history (guest_with nonce) from lines entries → AllByRecursion (IsByAccepted root.ring nonce lines) entries → AllByRecursion (HasLine sources root history) entries
  lines_of_entries number nonce from lines said [] of asked by = tt
  lines_of_entries number nonce from lines said (entry ∷ entries) of asked by = (
    record {
      nonce = nonce;
      from = from;
      lines = lines;
      said = subst (λ (n : ℕ). sources.may_say n nonce lines) (sym of.0) said;
      asked = subst (λ (n : ℕ). IsAskedFor sources.gives (record { root = root; number = n }) history (guest_with nonce) from lines entry) (sym of.0) asked.0;
      caller = by.0;
    },
    lines_of_entries number nonce from lines said entries of.1 asked.1 by.1,
  )

  pub each_with_line : (attended : ℕ) (passes : List (ℕ × List StoreEntry)) → AllByRecursion (λ (p : ℕ × List StoreEntry). AllOfPass p.0 p.1) passes →
      AreOfConnections (λ (number : ℕ) (own : List StoreEntry). AreOfSession sources (record { root = root; number = number }) history own) attended passes →
      AllByRecursion (λ l. AllByRecursion (HasLine sources root history) l) (map (λ (p : ℕ × List StoreEntry). p.1) passes)
  each_with_line _ _ own no_more = tt
  each_with_line _ _ own (was_attended count number entries passes s are) =
      (lines_of_entries number s.nonce s.from s.lines s.said entries own.0 s.asked s.callers, each_with_line count passes own.1 are)
  each_with_line _ _ own (was_not_attended count number passes are) = (tt, each_with_line count passes own.1 are)
