-- Digests in rising order.
use Rattle.std.proofs.Common.{◌≡◌, ◌≢◌, ℕ, zero, suc, ◌+◌, ◌<◌, ◌≤◌, Some, List, [], ◌∷◌, ◌++◌, length, get_or, Result, Ok, Err, sym, ap, ◌∙◌, arith, ◌⊎◌, inl, inr}
use Rattle.std.specs.Prelude.{Bool, true, false, is_ok, insert, if◌then◌else◌}
use Rattle.std.specs.Ordering.{nat_cmp}
use Rattle.std.specs.List.{slice_get}
use Rattle.std.specs.Option.{option_map}
use Rattle.std.specs.List.Sorted.{IsNonDecreasing, IsBinarySearchResult}
use Rattle.std.proofs.lemmas.Bool.{cases_lt, false≢true}
use Rattle.std.proofs.lemmas.List.{get_or_default}
use Rattle.std.proofs.lemmas.List.Edits.{length-insert, get_or-insert_below, get_or-insert_at, get_or-insert_above}
use Rattle.std.proofs.lemmas.List.Sorted.{IsNonDecreasingBy-insert, searched}
use Rattle.bl_syntax.specs.Statement.{StatementView}
use Rattle.policy_statement.specs.Digest.{digest_of}
use Rattle.policy_statement.specs.Registered.{RegisteredView}
use Rattle.policy_statement.specs.Registry.{statement_of_number}
use Rattle.policy_statement.specs.Digests.{IsMissing, IsPlace, HasDigests}

-- what lies below a place and above it is not there
pub missing_between : (xs : List ℕ) (x place : ℕ) → ((k : ℕ) → k < place → get_or xs k 0 < x) → ((k : ℕ) → place ≤ k → k < length xs → x < get_or xs k 0) → IsMissing xs x
missing_between xs x place below above k lt same =
    elim (cases_lt k place) [
      | inl low ↦ let h = below k low in absurd (omega arith)
      | inr high ↦ let h = above k high lt in absurd (omega arith)
    ]

-- a digest that is missing after an insertion was missing before, and is not the one that was inserted
pub missing-insert : (xs : List ℕ) (i y : ℕ) → i ≤ length xs → (d : ℕ) → IsMissing (insert xs i y) d → IsMissing xs d × (y ≢ d)
missing-insert xs i y le d missing = (
  λ k lt same.
      let len = length-insert xs i y le in
      elim (cases_lt k i) [
        | inl low ↦ missing k (omega (arith, len)) (get_or-insert_below xs i y 0 k low le ∙ same)
        | inr high ↦ missing (k + 1) (omega (arith, len)) (get_or-insert_above xs i y 0 k high le ∙ same)
      ],
  λ same. let len = length-insert xs i y le in missing i (omega (arith, len)) (get_or-insert_at xs i y 0 le ∙ same),
)

pub missing_unless_found : (xs : List ℕ) (x : ℕ) (r : Result ℕ ℕ) (found : Bool) → found ≡ is_ok r → IsBinarySearchResult (λ y. nat_cmp y x) xs r → IsNonDecreasing xs → found ≡ false → IsMissing xs x
missing_unless_found xs x (Ok place) found found_is position rising missing = absurd (false≢true (sym missing ∙ found_is))
missing_unless_found xs x (Err place) found found_is position rising missing =
    let h = searched xs x (Err place) position (λ i j le lt. rising i j 0 le lt) in
    missing_between xs x place h.1 h.2

pub IsPlace-found : (xs : List ℕ) (x place : ℕ) → IsBinarySearchResult (λ y. nat_cmp y x) xs (Ok place) → IsNonDecreasing xs → IsPlace xs x place
IsPlace-found xs x place position rising =
    let h = searched xs x (Ok place) position (λ i j le lt. rising i j 0 le lt) in
    let lt = h.0 in
    let is = h.1 in
    record {
      within = omega arith;
      below = λ k low. let r = rising k place 0 (omega arith) lt in omega arith;
      above = λ k high inside. let r = rising place k 0 high inside in omega arith;
    }

pub IsPlace-free : (xs : List ℕ) (x place : ℕ) → IsBinarySearchResult (λ y. nat_cmp y x) xs (Err place) → IsNonDecreasing xs → IsPlace xs x place
IsPlace-free xs x place position rising =
    let h = searched xs x (Err place) position (λ i j le lt. rising i j 0 le lt) in
    record {
      within = h.0;
      below = λ k low. let r = h.1 k low in omega arith;
      above = λ k high inside. let r = h.2 k high inside in omega arith;
    }

pub IsNonDecreasing-insert : (xs : List ℕ) (x place : ℕ) → IsPlace xs x place → IsNonDecreasing xs → IsNonDecreasing (insert xs place x)
IsNonDecreasing-insert xs x place at rising =
    let le = at.within in
    IsNonDecreasingBy-insert (λ d. d) xs place x rising at.within
    (λ k d low. let r = at.below k low in let same = get_or_default xs k d 0 (omega arith) in omega arith)
    (λ k d high inside. let r = at.above k high inside in let same = get_or_default xs k d 0 inside in omega arith)

-- what an insertion with room leaves
pub inserted : (xs new : List ℕ) (place x : ℕ) (added : Bool) → new ≡ (if added then insert xs place x else xs) → added ≡ true → new ≡ insert xs place x
inserted xs new place x true new_is ok = new_is
inserted xs new place x false new_is ok = absurd (false≢true ok)

-- ---- entries

place_push : (entries : List RegisteredView) (e : RegisteredView) (place : ℕ) (s : StatementView) → option_map (λ entry. entry.statement) (slice_get (entries ++ e ∷ []) place) ≡ Some s
    → (option_map (λ entry. entry.statement) (slice_get entries place) ≡ Some s) ⊎ (e.statement ≡ s)
place_push [] e zero s found = inr cc
place_push [] e (suc place) s found = cc
place_push (entry ∷ entries) e zero s found = inl found
place_push (entry ∷ entries) e (suc place) s found = place_push entries e place s found

numbered_push : (entries : List RegisteredView) (e : RegisteredView) (number : ℕ) (s : StatementView) → statement_of_number (entries ++ e ∷ []) number ≡ Some s → (statement_of_number entries number ≡ Some s) ⊎ (e.statement ≡ s)
numbered_push entries e zero s found = cc
numbered_push entries e (suc place) s found = place_push entries e place s found

pub HasDigests-nothing : (digests : List ℕ) → HasDigests [] digests
HasDigests-nothing digests zero s found missing = cc
HasDigests-nothing digests (suc place) s found missing = cc

pub HasDigests-push : (entries : List RegisteredView) (e : RegisteredView) (digest : ℕ) (digests more : List ℕ) → digest ≡ digest_of e.statement → HasDigests entries digests
    → ((d : ℕ) → IsMissing more d → IsMissing digests d × (digest ≢ d)) → HasDigests (entries ++ e ∷ []) more
HasDigests-push entries e digest digests more digest_is known added number s found missing =
    let before = added (digest_of s) missing in
    elim (numbered_push entries e number s found) [
      | inl old ↦ known number s old before.0
      | inr same ↦ before.1 (digest_is ∙ ap digest_of same)
    ]
