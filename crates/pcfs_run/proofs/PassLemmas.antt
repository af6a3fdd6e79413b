-- What a closed lock says of the passes of connections.
use Rattle.std.proofs.Common.{◌≡◌, ◌∙◌, ℕ, ◌≤◌, List, [], ◌∷◌, map, length, eqb, refl, sym, ap, subst, arith}
use Rattle.std.specs.List.{AllByRecursion, IsDistinct}
use Rattle.std.proofs.lemmas.List.{length-map, append-nil}
use Rattle.tree_lock.specs.Merge.{Merges, ends}
use Rattle.tree_lock.specs.Seen.{DoormanView, Retired}
use Rattle.tree_lock.specs.Closing.{IsClosed}
use Rattle.pcfs_store.specs.Entries.{StoreEntry, happened, checkpointed, stopped, root_of, entries_of}
use Rattle.pcfs_store.specs.StoreView.{StoreView}
use Rattle.session_history.specs.Passes.{AllOfPass}
use Rattle.shared_store.specs.declared.entry.LockEntry.{LockEntry}
use mathlib.Core.List.{IsPrefix}
use Rattle.shared_store.specs.LockHistory.{numbered, lock_history, lock_entries, bare}
use Rattle.shared_store.specs.OpenedView.{OpenedView}
use Rattle.shared_store.specs.Turning.{pass_at}
use Rattle.shared_store.proofs.MergedLemmas.{closed_are_merged}
use Rattle.session_service.specs.Connections.{AreOfConnections, no_more, was_attended, was_not_attended}
use Rattle.session_service.specs.Sessions.{SessionSources, AreOfSession, AreOfSeenSession}
use Rattle.nine_service.specs.Passes.{NineSources, AreOfNine, AreOfSeenNine}
use Rattle.pcfs_run.specs.Passes.{PassEntries, IsGrown}

-- before the first connection no pass was taken in
pub nobody_yet : {E : Type 0} (P : ℕ → List E → Type 0) (served : ℕ) (retired : List (ℕ × List E)) → served ≡ 0 → retired ≡ [] → AreOfConnections P served retired
nobody_yet {E} P served retired none_served none = subst (λ (n : ℕ). AreOfConnections P n retired) (sym none_served) (subst (λ (l : List (ℕ × List E)). AreOfConnections P 0 l) (sym none) no_more)

-- entries that were numbered, without their numbers
bare_all : (D : Type 0) (entries : List StoreEntry) → bare (numbered {D = D} entries) ≡ entries
bare_all D [] = refl
bare_all D (happened event ∷ entries) = ap (λ (l : List StoreEntry). happened event ∷ l) (bare_all D entries)
bare_all D (checkpointed pass ∷ entries) = ap (λ (l : List StoreEntry). checkpointed pass ∷ l) (bare_all D entries)
bare_all D (stopped pass met ∷ entries) = ap (λ (l : List StoreEntry). stopped pass met ∷ l) (bare_all D entries)

module _ {D : Type 0} where
  -- the passes that were taken in, each with its own entries without their numbers
  abbrev passes_of : List (Retired (LockEntry D)) → List (ℕ × List StoreEntry)
  passes_of retired = map (λ (r : Retired (LockEntry D)). (r.0, bare r.1)) retired

  numbers_same : (retired : List (Retired (LockEntry D))) → map (λ (p : ℕ × List StoreEntry). p.0) (passes_of retired) ≡ map (λ (r : Retired (LockEntry D)). r.0) retired
  numbers_same [] = refl
  numbers_same (r ∷ rs) = ap (λ (ns : List ℕ). r.0 ∷ ns) (numbers_same rs)

  lists_same : (retired : List (Retired (LockEntry D))) → map (λ (p : ℕ × List StoreEntry). p.1) (passes_of retired) ≡ map (λ (r : Retired (LockEntry D)). bare r.1) retired
  lists_same [] = refl
  lists_same (r ∷ rs) = ap (λ (ls : List (List StoreEntry)). bare r.1 ∷ ls) (lists_same rs)

  within_of : (made : ℕ) (retired : List (Retired (LockEntry D))) → AllByRecursion (λ (r : Retired (LockEntry D)). (1 ≤ r.0) × (r.0 ≤ made)) retired → AllByRecursion (λ (p : ℕ × List StoreEntry). (1 ≤ p.0) × (p.0 ≤ made)) (passes_of retired)
  within_of made [] all = tt
  within_of made (r ∷ rs) all = (all.0, within_of made rs all.1)

  own_of : (retired : List (Retired (LockEntry D))) → AllByRecursion (λ (r : Retired (LockEntry D)). AllOfPass r.0 (bare r.1)) retired → AllByRecursion (λ (p : ℕ × List StoreEntry). AllOfPass p.0 p.1) (passes_of retired)
  own_of [] all = tt
  own_of (r ∷ rs) all = (all.0, own_of rs all.1)

  -- what is seen of a session is so in the whole history
  pub in_whole : (sources : SessionSources) (opening first : StoreView D) (entries : List StoreEntry) (seen : List (ℕ × LockEntry D)) → opening ≡ first → IsPrefix seen (lock_history opening entries) → (number : ℕ) (own : List (ℕ × LockEntry D)) → AreOfSeenSession sources seen number own →
      AreOfSession sources (record { root = root_of first; number = number }) entries (bare own)
  in_whole sources opening first entries seen same begins number own s =
      subst (λ (o : StoreView D). AreOfSession sources (pass_at o number) entries (bare own)) same
      (subst (AreOfSession sources (pass_at opening number) entries) (sym (ap bare s.own_is ∙ bare_all D s.given)) (s.session opening entries begins))

  -- so is what is seen of 9P2000
  pub in_whole_nine : (sources : NineSources) (opening first : StoreView D) (entries : List StoreEntry) (seen : List (ℕ × LockEntry D)) → opening ≡ first → IsPrefix seen (lock_history opening entries) → (number : ℕ) (own : List (ℕ × LockEntry D)) → AreOfSeenNine sources seen number own →
      AreOfNine sources (record { root = root_of first; number = number }) entries (bare own)
  in_whole_nine sources opening first entries seen same begins number own s =
      subst (λ (o : StoreView D). AreOfNine sources (pass_at o number) entries (bare own)) same
      (subst (AreOfNine sources (pass_at opening number) entries) (sym (ap bare s.own_is ∙ bare_all D s.given)) (s.nine opening entries begins))

  -- without their numbers they are those of as many connections
  connections_of : (P : ℕ → List (ℕ × LockEntry D) → Type 0) (Q : ℕ → List StoreEntry → Type 0) → ((number : ℕ) (own : List (ℕ × LockEntry D)) → P number own → Q number (bare own)) → (count : ℕ) (retired : List (Retired (LockEntry D))) → AreOfConnections P count retired →
      AreOfConnections Q count (passes_of retired)
  connections_of P Q also _ _ no_more = no_more
  connections_of P Q also _ _ (was_attended count number own passes had are) = was_attended count number (bare own) (passes_of passes) (also number own had) (connections_of P Q also count passes are)
  connections_of P Q also _ _ (was_not_attended count number passes are) = was_not_attended count number (passes_of passes) (connections_of P Q also count passes are)

  -- a lock was made over the first store, all its passes were taken in, and the last store came out
  pub IsGrown-closed : (is_of : PassEntries) (seen_of : ℕ → List (ℕ × LockEntry D) → Type 0) (first last : OpenedView D) (door : DoormanView (LockEntry D)) (attended count : ℕ) → first.opening ≡ first.store → door.opening ≡ lock_entries first → IsClosed door (lock_entries last) →
      ((number : ℕ) (own : List (ℕ × LockEntry D)) → last.opening ≡ first.store → IsPrefix door.seen (lock_history last.opening (entries_of last.store)) → seen_of number own → is_of (record { root = root_of first.store; number = number }) (entries_of last.store) (bare own)) →
      AreOfConnections seen_of attended door.retired → door.made ≡ attended → door.made ≤ count → IsGrown is_of attended count first.store last.store
  IsGrown-closed is_of seen_of first last door attended count opened is closed in_all of_connections every few =
      let both = closed_are_merged first last door is closed in
      let m = both.1 in
      let all : length (passes_of door.retired) ≡ length door.retired = length-map door.retired (λ (r : Retired (LockEntry D)). (r.0, bare r.1)) in
      record {
        added = m.rest;
        parts = m.parts;
        of_passes = record {
          passes = passes_of door.retired;
          distinct = subst (IsDistinct eqb) (sym (numbers_same door.retired)) closed.knows.numbers.distinct;
          within = subst (λ (n : ℕ). AllByRecursion (λ (p : ℕ × List StoreEntry). (1 ≤ p.0) × (p.0 ≤ n)) (passes_of door.retired)) (sym (all ∙ closed.all)) (within_of door.made door.retired closed.knows.numbers.within);
          own = own_of door.retired m.of_passes;
          merged = subst (λ (ls : List (List StoreEntry)). Merges ls m.rest) (sym (lists_same door.retired)) m.merged;
          of_connections =
              subst (λ (history : List StoreEntry). AreOfConnections (λ (number : ℕ) (own : List StoreEntry). is_of (record { root = root_of first.store; number = number }) history own) attended (passes_of door.retired)) m.parts
              (connections_of seen_of (λ (number : ℕ) (own : List StoreEntry). is_of (record { root = root_of first.store; number = number }) (entries_of last.store) own)
              (λ number own. in_all number own (both.0 ∙ opened) closed.knows.seen) attended door.retired of_connections);
          every = all ∙ closed.all ∙ every;
          few = subst (λ (n : ℕ). n ≤ count) (sym (all ∙ closed.all)) few;
        };
      }

  -- no lock was made, and nobody had a pass
  pub IsGrown-none : (is_of : PassEntries) (s : StoreView D) (count : ℕ) → IsGrown is_of 0 count s s
  unfolding IsDistinct
  IsGrown-none is_of s count = record {
    added = [];
    parts = sym (append-nil (entries_of s));
    of_passes = record { passes = []; distinct = tt; within = tt; own = tt; merged = ends tt; of_connections = no_more; every = refl; few = omega arith };
  }
