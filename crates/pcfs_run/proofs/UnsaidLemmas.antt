-- Where no line may be said, nothing is added.
use Rattle.std.proofs.Common.{◌≡◌, ◌∙◌, ◌≤◌, ℕ, zero, suc, ◌-◌, List, [], ◌∷◌, map, length, Option, Some, refl, sym, subst, ap, arith}
use Rattle.std.specs.Prelude.{slice_get}
use Rattle.std.specs.List.{AllByRecursion}
use Rattle.tree_lock.specs.Merge.{Merges, ends, takes}
use Rattle.pcfs_store.specs.Entries.{Root, StoreEntry}
use Rattle.session_history.specs.Turn.{StorePass}
use Rattle.session_service.specs.Sessions.{SessionSources, AreFirstLines, MaySay, AreOfSession, inputs_of}
use Rattle.session_service.specs.Connections.{AreOfConnections, no_more, was_attended, was_not_attended}
use Rattle.session_service.proofs.FewLemmas.{session_few}

none_of : (entries : List StoreEntry) → length entries ≤ 0 → entries ≡ []
none_of [] few = refl
none_of (entry ∷ entries) few = absurd (omega (arith, few))

-- a list among lists without elements has none
get_none : (lists : List (List StoreEntry)) (k : ℕ) (l : List StoreEntry) → AllByRecursion (λ l. l ≡ []) lists → slice_get lists k ≡ Some l → l ≡ []
get_none [] k l none found = absurd cc
get_none (first ∷ lists) zero l none found = let both : Some first ≡ Some l = found in let same : first ≡ l = cc in subst (λ (x : List StoreEntry). x ≡ []) same none.0
get_none (first ∷ lists) (suc k) l none found = get_none lists k l none.1 found

-- lists without elements have no merge but the empty one
pub merged_none : (lists : List (List StoreEntry)) (all : List StoreEntry) → Merges lists all → AllByRecursion (λ l. l ≡ []) lists → all ≡ []
merged_none lists _ (ends is) none = refl
merged_none lists _ (takes {x = x} {xs = xs} {ys = ys} k found merged) none = let some = get_none lists k (x ∷ xs) none found in absurd cc

-- ---- inputs that are empty

-- the first lines of no bytes are none
first_of_none : (lines : List (List ℕ)) → AreFirstLines (Some []) lines → lines ≡ []
first_of_none [] first = refl
first_of_none (line ∷ lines) first = absurd cc

-- what the inputs tell of connections of which each input tells that it is empty
pub get_empty : {I O : Type 0} (left : I → Option (List ℕ)) (connections : List (I × O)) (k : ℕ) (told : Option (List ℕ)) → AllByRecursion (λ c. left c.0 ≡ Some []) connections → slice_get (map (λ c. left c.0) connections) k ≡ Some told → told ≡ Some []
get_empty left [] k told empty found = absurd cc
get_empty left (first ∷ connections) zero told empty found = let both : Some (left first.0) ≡ Some told = found in let same : left first.0 ≡ told = cc in sym same ∙ empty.0
get_empty left (first ∷ connections) (suc k) told empty found = get_empty left connections k told empty.1 found

-- so no line is said by a connection of which the input was empty
pub none_said_of_empty : {I O : Type 0} (left : I → Option (List ℕ)) (connections : List (I × O)) (nonces : Option (List ℕ)) (number : ℕ) (nonce : List ℕ) (lines : List (List ℕ)) → AllByRecursion (λ c. left c.0 ≡ Some []) connections →
    MaySay left (inputs_of left (Some connections)) nonces number nonce lines → lines ≡ []
none_said_of_empty left connections nonces number nonce lines empty says =
    first_of_none lines (subst (λ (told : Option (List ℕ)). AreFirstLines told lines) (get_empty left connections (number - 1) (left says.input) empty says.accepted) says.first)

module _ (sources : SessionSources) (none_said : (number : ℕ) (nonce : List ℕ) (lines : List (List ℕ)) → sources.may_say number nonce lines → lines ≡ []) where
  no_entries : (p : StorePass) (history own : List StoreEntry) → AreOfSession sources p history own → own ≡ []
  no_entries p history own s =
      let few = session_few sources.gives p history _ s.from s.lines s.answers s.end s.to own s.placed in
      let none : length s.lines ≡ 0 = ap length (none_said p.number s.nonce s.lines s.said) in
      none_of own (omega (arith, few, none))

  pub all_without : (root : Root) (history : List StoreEntry) (attended : ℕ) (passes : List (ℕ × List StoreEntry)) → AreOfConnections (λ (number : ℕ) (own : List StoreEntry). AreOfSession sources (record { root = root; number = number }) history own) attended passes →
      AllByRecursion (λ l. l ≡ []) (map (λ (p : ℕ × List StoreEntry). p.1) passes)
  all_without root history _ _ no_more = tt
  all_without root history _ _ (was_attended count number own passes session are) = (no_entries (record { root = root; number = number }) history own session, all_without root history count passes are)
  all_without root history _ _ (was_not_attended count number passes are) = (refl, all_without root history count passes are)
