-- The numbers of retired passes: they are at most as many as were made, and all of them if they are as many.
use Rattle.std.proofs.Common.{◌≡◌, ◌⊎◌, ℕ, suc, ◌+◌, ◌≤◌, List, [], ◌∷◌, map, length, ◌||◌, eqb, true, false, true≢false, ne_eqb, refl, sym, ap, ◌∙◌, subst, ⊎_elim, inl, inr, arith}
use Rattle.std.specs.List.{AllByRecursion, IsDistinct, list_any}
use Rattle.std.proofs.lemmas.Map.Steps.{length-le_from_distinct_below}
use mathlib.Core.Logic.{dite}
use native.Mathlib.Decide.{ℕ_discrete}
use Rattle.tree_lock.specs.Seen.{Retired, AreNumbers}

-- a number is among those in a list, or differs from each
abbrev pub IsAmong : ℕ → List ℕ → Type 0
IsAmong n [] = ⊥
IsAmong n (x ∷ xs) = (n ≡ x) ⊎ IsAmong n xs

among : (n : ℕ) (xs : List ℕ) → IsAmong n xs ⊎ AllByRecursion (λ y. eqb n y ≡ false) xs
among n [] = inr tt
among n (x ∷ xs) = dite (ℕ_discrete n x)
    (λ is. inl (inl is))
    (λ ne. ⊎_elim (λ (t : IsAmong n xs). inl (inr t)) (λ (t : AllByRecursion (λ y. eqb n y ≡ false) xs). inr (ne_eqb n x ne, t)) (among n xs))

listed : (q : ℕ) (xs : List ℕ) → list_any (eqb q) xs ≡ true → IsAmong q xs
listed q [] e = absurd (true≢false (sym e))
listed q (x ∷ xs) e = dite (ℕ_discrete q x) inl (λ ne. inr (listed q xs (sym (ap (λ b. b || list_any (eqb q) xs) (ne_eqb q x ne)) ∙ e)))

all_among : (P : ℕ → Type 0) (n : ℕ) (xs : List ℕ) → IsAmong n xs → AllByRecursion P xs → P n
all_among P n [] i all = absurd i
all_among P n (x ∷ xs) i all = ⊎_elim (λ (e : n ≡ x). subst P (sym e) all.0) (λ (t : IsAmong n xs). all_among P n xs t all.1) i

-- numbers that differ, from 1 to a count
few : (count : ℕ) (xs : List ℕ) → IsDistinct eqb xs → AllByRecursion (λ y. (1 ≤ y) × (y ≤ count)) xs → length xs ≤ count
unfolding IsDistinct
few count xs distinct within =
    let more : suc (length xs) ≤ count + 1 = length-le_from_distinct_below (0 ∷ xs) (count + 1) (zero_apart xs within, distinct)
    (λ q e. ⊎_elim (λ (z : q ≡ 0). omega arith) (λ (t : IsAmong q xs). let b = all_among (λ y. (1 ≤ y) × (y ≤ count)) q xs t within in let le : q ≤ count = b.1 in omega arith) (listed q (0 ∷ xs) e)) in
    omega arith
  where
    zero_apart : (ys : List ℕ) → AllByRecursion (λ y. (1 ≤ y) × (y ≤ count)) ys → AllByRecursion (λ y. eqb 0 y ≡ false) ys
    zero_apart [] all = tt
    zero_apart (y ∷ ys) all = let low : 1 ≤ y = all.0.0 in (ne_eqb 0 y (λ e. omega arith), zero_apart ys all.1)

-- if they are as many as the count, each number up to it is among them
all_of_them : (count : ℕ) (xs : List ℕ) (n : ℕ) → IsDistinct eqb xs → AllByRecursion (λ y. (1 ≤ y) × (y ≤ count)) xs → length xs ≡ count → 1 ≤ n → n ≤ count → IsAmong n xs
unfolding IsDistinct
all_of_them count xs n distinct within all low high = ⊎_elim (λ i. i)
    (λ (apart : AllByRecursion (λ y. eqb n y ≡ false) xs). let more : suc (length xs) ≤ count = few count (n ∷ xs) (apart, distinct) ((low, high), within) in absurd (omega arith))
    (among n xs)

module _ {E : Type 0} where
  abbrev number : Retired E → ℕ
  number r = r.0

  mapped : (P : ℕ → Type 0) (retired : List (Retired E)) → AllByRecursion (λ (r : Retired E). P r.0) retired → AllByRecursion P (map (λ (r : Retired E). r.0) retired)
  mapped P [] all = tt
  mapped P (x ∷ xs) all = (all.0, mapped P xs all.1)

  same_length : (retired : List (Retired E)) → length (map (λ (r : Retired E). r.0) retired) ≡ length retired
  same_length [] = refl
  same_length (x ∷ xs) = ap suc (same_length xs)

  -- no more passes were retired than were made
  pub retired-le : (made : ℕ) (retired : List (Retired E)) → AreNumbers made retired → length retired ≤ made
  retired-le made retired numbers =
      subst (λ n. n ≤ made) (same_length retired) (few made (map (λ (r : Retired E). r.0) retired) numbers.distinct (mapped (λ y. (1 ≤ y) × (y ≤ made)) retired numbers.within))

  -- where all were retired, what holds of each retired pass holds of each number that was made
  pub each_made : (P : ℕ → Type 0) (made : ℕ) (retired : List (Retired E)) (n : ℕ) → AreNumbers made retired → length retired ≡ made → AllByRecursion (λ (r : Retired E). P r.0) retired → 1 ≤ n → n ≤ made → P n
  each_made P made retired n numbers all holds low high =
      let xs : List ℕ = map (λ (r : Retired E). r.0) retired in
      all_among P n xs (all_of_them made xs n numbers.distinct (mapped (λ y. (1 ≤ y) × (y ≤ made)) retired numbers.within) (same_length retired ∙ all) low high) (mapped P retired holds)

  -- each retired pass's number is among the numbers
  pub among_of : (retired : List (Retired E)) → AllByRecursion (λ (r : Retired E). IsAmong r.0 (map (λ (r : Retired E). r.0) retired)) retired
  among_of [] = tt
  among_of (x ∷ xs) = (inl refl, later xs (map (λ (r : Retired E). r.0) xs) (among_of xs))
    where
      later : (rs : List (Retired E)) (ns : List ℕ) → AllByRecursion (λ (r : Retired E). IsAmong r.0 ns) rs → AllByRecursion (λ (r : Retired E). IsAmong r.0 (x.0 ∷ ns)) rs
      later [] ns all = tt
      later (r ∷ rs) ns all = (inr all.0, later rs ns all.1)
