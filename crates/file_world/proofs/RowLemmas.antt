-- Values under numbers: look-ups after a change, and numbers that rise.
use Rattle.std.proofs.Common.{◌≡◌, ◌≢◌, ℕ, suc, ◌+◌, ◌<◌, ◌≤◌, Bool, true, false, cond, Option, Some, None, List, [], ◌∷◌, ◌++◌, length, map, sum_by, refl, sym, ap, ◌∙◌, subst, arith, nat_eq, nat_lt, nat_cmp, Less, Equal, Greater}
use Rattle.std.specs.List.{AllByRecursion}
use Rattle.std.specs.List.Sorted.{IsStrictlySortedBy}
use Rattle.std.specs.Map.{lookup, remove_entry, keys_of}
use Rattle.std.proofs.lemmas.Bool.{cond-true, cond-false, lt-ltb, ltb-true, eq-eqb, ne_eqb, eqb-true}
use Rattle.std.proofs.lemmas.List.Sums.{sum_by-cons}
use Rattle.std.proofs.lemmas.Option.{none-some, same_Some}
use Rattle.file_world.specs.TreeEffect.{revise}

-- a test holds or does not
pub split : {P : Type 0} (test : Bool) → (test ≡ true → P) → (test ≡ false → P) → P
split true holds fails = holds refl
split false holds fails = fails refl

-- where a test in an option is known
pub cond_at_true : {A : Type 0} (b : Bool) (x y z : A) → b ≡ true → cond b x y ≡ z → x ≡ z
cond_at_true b x y z e h = sym (cond-true b x y e) ∙ h

pub cond_at_false : {A : Type 0} (b : Bool) (x y z : A) → b ≡ false → cond b x y ≡ z → y ≡ z
cond_at_false b x y z e h = sym (cond-false b x y e) ∙ h

pub lt_from_less : (a b : ℕ) → nat_cmp a b ≡ Less → a < b
lt_from_less a b e =
    split (nat_lt a b) (λ t. ltb-true a b t)
    (λ t. split (nat_eq a b)
    (λ s. absurd (not_equal (sym (cond-true (nat_eq a b) Equal Greater s) ∙ (sym (cond-false (nat_lt a b) Less (cond (nat_eq a b) Equal Greater) t) ∙ e))))
    (λ s. absurd (not_greater (sym (cond-false (nat_eq a b) Equal Greater s) ∙ (sym (cond-false (nat_lt a b) Less (cond (nat_eq a b) Equal Greater) t) ∙ e)))))
  where
    not_equal : Equal ≡ Less → ⊥
    not_equal h = cc

    not_greater : Greater ≡ Less → ⊥
    not_greater h = cc

pub less_from_lt : (a b : ℕ) → a < b → nat_cmp a b ≡ Less
less_from_lt a b h = cond-true (nat_lt a b) _ _ (lt-ltb a b h)

module _ {K V : Type 0} where
  -- ---- the first row, and more rows

  pub lookup_here : (test : K → Bool) (row : K × V) (rows : List (K × V)) → test row.0 ≡ true → lookup test (row ∷ rows) ≡ Some row.1
  lookup_here test row rows e = cond-true (test row.0) _ _ e

  pub lookup_later : (test : K → Bool) (row : K × V) (rows : List (K × V)) → test row.0 ≡ false → lookup test (row ∷ rows) ≡ lookup test rows
  lookup_later test row rows e = cond-false (test row.0) _ _ e

  pub lookup-append_found : (test : K → Bool) (rows more : List (K × V)) (value : V) → lookup test rows ≡ Some value → lookup test (rows ++ more) ≡ Some value
  lookup-append_found test [] more value e = absurd (none-some _ e)
  lookup-append_found test (row ∷ rows) more value e =
      split (test row.0)
      (λ t. cond-true (test row.0) _ _ t ∙ cond_at_true (test row.0) _ _ _ t e)
      (λ t. cond-false (test row.0) _ _ t ∙ lookup-append_found test rows more value (cond_at_false (test row.0) _ _ _ t e))

  pub lookup-append_none : (test : K → Bool) (rows more : List (K × V)) → lookup test rows ≡ None → lookup test (rows ++ more) ≡ lookup test more
  lookup-append_none test [] more e = refl
  lookup-append_none test (row ∷ rows) more e =
      split (test row.0)
      (λ t. absurd (none-some _ (sym (cond_at_true (test row.0) _ _ _ t e))))
      (λ t. cond-false (test row.0) _ _ t ∙ lookup-append_none test rows more (cond_at_false (test row.0) _ _ _ t e))

module _ {V : Type 0} where
  -- ---- a revised row

  pub lookup-revised_same : (number : ℕ) (revision : V → V) (rows : List (ℕ × V)) (value : V) → lookup (nat_eq number) rows ≡ Some value → lookup (nat_eq number) (revise number revision rows) ≡ Some (revision value)
  lookup-revised_same number revision [] value e = absurd (none-some _ e)
  lookup-revised_same number revision (row ∷ rows) value e =
      split (nat_eq number row.0)
      (λ t. ap (lookup (nat_eq number)) (cond-true (nat_eq number row.0) _ _ t)
      ∙ (lookup_here (nat_eq number) (row.0, revision row.1) rows t ∙ ap (λ (v : V). Some (revision v)) (same_Some _ _ (cond_at_true (nat_eq number row.0) _ _ _ t e))))
      (λ t. ap (lookup (nat_eq number)) (cond-false (nat_eq number row.0) _ _ t)
      ∙ (lookup_later (nat_eq number) row (revise number revision rows) t ∙ lookup-revised_same number revision rows value (cond_at_false (nat_eq number row.0) _ _ _ t e)))

  pub lookup-revised_other : (number other : ℕ) (revision : V → V) (rows : List (ℕ × V)) → other ≢ number → lookup (nat_eq other) (revise number revision rows) ≡ lookup (nat_eq other) rows
  lookup-revised_other number other revision [] apart = refl
  lookup-revised_other number other revision (row ∷ rows) apart =
      split (nat_eq number row.0)
      (λ t. let e : number ≡ row.0 = eqb-true number row.0 t in
      let f : nat_eq other row.0 ≡ false = ne_eqb other row.0 (λ h. apart (h ∙ sym e)) in
      ap (lookup (nat_eq other)) (cond-true (nat_eq number row.0) _ _ t)
      ∙ (lookup_later (nat_eq other) (row.0, revision row.1) rows f ∙ sym (lookup_later (nat_eq other) row rows f)))
      (λ t. ap (lookup (nat_eq other)) (cond-false (nat_eq number row.0) _ _ t)
      ∙ ap (λ (rest : Option V). cond (nat_eq other row.0) (Some row.1) rest) (lookup-revised_other number other revision rows apart))

  -- a list read from each row is the same if the revision leaves it
  pub map-revised : {Y : Type 0} (read : ℕ × V → Y) (number : ℕ) (revision : V → V) → ((n : ℕ) (v : V) → read (n, revision v) ≡ read (n, v)) → (rows : List (ℕ × V)) → map read (revise number revision rows) ≡ map read rows
  map-revised read number revision same [] = refl
  map-revised {Y} read number revision same (row ∷ rows) =
      split (nat_eq number row.0)
      (λ t. ap (map read) (cond-true (nat_eq number row.0) _ _ t) ∙ ap (λ (y : Y). y ∷ map read rows) (same row.0 row.1))
      (λ t. ap (map read) (cond-false (nat_eq number row.0) _ _ t) ∙ ap (λ (ys : List Y). read row ∷ ys) (map-revised read number revision same rows))

  pub length-revised : (number : ℕ) (revision : V → V) (rows : List (ℕ × V)) → length (revise number revision rows) ≡ length rows
  length-revised number revision [] = refl
  length-revised number revision (row ∷ rows) =
      split (nat_eq number row.0)
      (λ t. ap length (cond-true (nat_eq number row.0) _ _ t))
      (λ t. ap length (cond-false (nat_eq number row.0) _ _ t) ∙ ap suc (length-revised number revision rows))

  pub keys-revised : (number : ℕ) (revision : V → V) (rows : List (ℕ × V)) → keys_of (revise number revision rows) ≡ keys_of rows
  keys-revised number revision rows = map-revised (λ row. row.0) number revision (λ _ _. refl) rows

  pub sum_by-revised : (weight : ℕ × V → ℕ) (number : ℕ) (revision : V → V) (value : V) (rows : List (ℕ × V)) → lookup (nat_eq number) rows ≡ Some value → sum_by weight (revise number revision rows) + weight (number, value) ≡ sum_by weight rows + weight (number, revision value)
  sum_by-revised weight number revision value [] e = absurd (none-some _ e)
  sum_by-revised weight number revision value (row ∷ rows) e =
      split (nat_eq number row.0)
      (λ t. let n : number ≡ row.0 = eqb-true number row.0 t in
      let v : row.1 ≡ value = same_Some _ _ (cond_at_true (nat_eq number row.0) _ _ _ t e) in
      let left : sum_by weight (revise number revision (row ∷ rows)) ≡ weight (row.0, revision row.1) + sum_by weight rows = ap (sum_by weight) (cond-true (nat_eq number row.0) _ _ t) ∙ sum_by-cons weight (row.0, revision row.1) rows in
      let right : sum_by weight (row ∷ rows) ≡ weight (row.0, row.1) + sum_by weight rows = sum_by-cons weight row rows in
      let a : weight (row.0, revision row.1) ≡ weight (number, revision value) = ap (λ (m : ℕ). weight (m, revision row.1)) (sym n) ∙ ap (λ (w : V). weight (number, revision w)) v in
      let b : weight (row.0, row.1) ≡ weight (number, value) = ap (λ (m : ℕ). weight (m, row.1)) (sym n) ∙ ap (λ (w : V). weight (number, w)) v in
      omega (arith, left, right, a, b))
      (λ t. let left : sum_by weight (revise number revision (row ∷ rows)) ≡ weight row + sum_by weight (revise number revision rows) = ap (sum_by weight) (cond-false (nat_eq number row.0) _ _ t) ∙ sum_by-cons weight row (revise number revision rows) in
      let right : sum_by weight (row ∷ rows) ≡ weight row + sum_by weight rows = sum_by-cons weight row rows in
      let rest = sum_by-revised weight number revision value rows (cond_at_false (nat_eq number row.0) _ _ _ t e) in
      omega (arith, left, right, rest))

  -- what one value weighs is part of the sum
  pub weight-le-sum_by : (weight : ℕ × V → ℕ) (number : ℕ) (value : V) (rows : List (ℕ × V)) → lookup (nat_eq number) rows ≡ Some value → weight (number, value) ≤ sum_by weight rows
  weight-le-sum_by weight number value [] e = absurd (none-some _ e)
  weight-le-sum_by weight number value (row ∷ rows) e =
      split (nat_eq number row.0)
      (λ t. let n : number ≡ row.0 = eqb-true number row.0 t in
      let v : row.1 ≡ value = same_Some _ _ (cond_at_true (nat_eq number row.0) _ _ _ t e) in
      let right : sum_by weight (row ∷ rows) ≡ weight (row.0, row.1) + sum_by weight rows = sum_by-cons weight row rows in
      let b : weight (row.0, row.1) ≡ weight (number, value) = ap (λ (m : ℕ). weight (m, row.1)) (sym n) ∙ ap (λ (w : V). weight (number, w)) v in
      omega (arith, right, b))
      (λ t. let right : sum_by weight (row ∷ rows) ≡ weight row + sum_by weight rows = sum_by-cons weight row rows in
      let rest = weight-le-sum_by weight number value rows (cond_at_false (nat_eq number row.0) _ _ _ t e) in
      omega (arith, right, rest))

  -- ---- a row that goes

  pub sum_by-removed : (weight : ℕ × V → ℕ) (number : ℕ) (value : V) (rows : List (ℕ × V)) → lookup (nat_eq number) rows ≡ Some value → sum_by weight (remove_entry (nat_eq number) rows) + weight (number, value) ≡ sum_by weight rows
  sum_by-removed weight number value [] e = absurd (none-some _ e)
  sum_by-removed weight number value (row ∷ rows) e =
      split (nat_eq number row.0)
      (λ t. let n : number ≡ row.0 = eqb-true number row.0 t in
      let v : row.1 ≡ value = same_Some _ _ (cond_at_true (nat_eq number row.0) _ _ _ t e) in
      let left : sum_by weight (remove_entry (nat_eq number) (row ∷ rows)) ≡ sum_by weight rows = ap (sum_by weight) (cond-true (nat_eq number row.0) _ _ t) in
      let right : sum_by weight (row ∷ rows) ≡ weight (row.0, row.1) + sum_by weight rows = sum_by-cons weight row rows in
      let b : weight (row.0, row.1) ≡ weight (number, value) = ap (λ (m : ℕ). weight (m, row.1)) (sym n) ∙ ap (λ (w : V). weight (number, w)) v in
      omega (arith, left, right, b))
      (λ t. let left : sum_by weight (remove_entry (nat_eq number) (row ∷ rows)) ≡ weight row + sum_by weight (remove_entry (nat_eq number) rows) = ap (sum_by weight) (cond-false (nat_eq number row.0) _ _ t) ∙ sum_by-cons weight row (remove_entry (nat_eq number) rows) in
      let right : sum_by weight (row ∷ rows) ≡ weight row + sum_by weight rows = sum_by-cons weight row rows in
      let rest = sum_by-removed weight number value rows (cond_at_false (nat_eq number row.0) _ _ _ t e) in
      omega (arith, left, right, rest))

  pub length-removed_le : (number : ℕ) (rows : List (ℕ × V)) → length (remove_entry (nat_eq number) rows) ≤ length rows
  length-removed_le number [] = omega arith
  length-removed_le number (row ∷ rows) =
      split (nat_eq number row.0)
      (λ t. let e : length (remove_entry (nat_eq number) (row ∷ rows)) ≡ length rows = ap length (cond-true (nat_eq number row.0) _ _ t) in omega (arith, e))
      (λ t. let e : length (remove_entry (nat_eq number) (row ∷ rows)) ≡ suc (length (remove_entry (nat_eq number) rows)) = ap length (cond-false (nat_eq number row.0) _ _ t) in omega (arith, e, length-removed_le number rows))

  pub lookup-removed_other : (number other : ℕ) (rows : List (ℕ × V)) → other ≢ number → lookup (nat_eq other) (remove_entry (nat_eq number) rows) ≡ lookup (nat_eq other) rows
  lookup-removed_other number other [] apart = refl
  lookup-removed_other number other (row ∷ rows) apart =
      split (nat_eq number row.0)
      (λ t. let e : number ≡ row.0 = eqb-true number row.0 t in
      let f : nat_eq other row.0 ≡ false = ne_eqb other row.0 (λ h. apart (h ∙ sym e)) in
      ap (lookup (nat_eq other)) (cond-true (nat_eq number row.0) _ _ t) ∙ sym (lookup_later (nat_eq other) row rows f))
      (λ t. ap (lookup (nat_eq other)) (cond-false (nat_eq number row.0) _ _ t)
      ∙ ap (λ (rest : Option V). cond (nat_eq other row.0) (Some row.1) rest) (lookup-removed_other number other rows apart))

  -- ---- numbers that rise

  -- each number is above a bound
  abbrev pub AreAbove : ℕ → List (ℕ × V) → Type 0
  AreAbove bound rows = AllByRecursion (λ number. nat_cmp bound number ≡ Less) (keys_of rows)

  pub above_found : (bound number : ℕ) (value : V) (rows : List (ℕ × V)) → AreAbove bound rows → lookup (nat_eq number) rows ≡ Some value → bound < number
  above_found bound number value [] above e = absurd (none-some _ e)
  above_found bound number value (row ∷ rows) above e =
      split (nat_eq number row.0)
      (λ t. let n : number ≡ row.0 = eqb-true number row.0 t in let h : bound < row.0 = lt_from_less bound row.0 above.0 in omega (arith, n, h))
      (λ t. above_found bound number value rows above.1 (cond_at_false (nat_eq number row.0) _ _ _ t e))

  pub above-removed : (bound number : ℕ) (rows : List (ℕ × V)) → AreAbove bound rows → AreAbove bound (remove_entry (nat_eq number) rows)
  above-removed bound number [] above = tt
  above-removed bound number (row ∷ rows) above =
      split (nat_eq number row.0)
      (λ t. subst (AreAbove bound) (sym (cond-true (nat_eq number row.0) rows (row ∷ remove_entry (nat_eq number) rows) t)) above.1)
      (λ t. subst (AreAbove bound) (sym (cond-false (nat_eq number row.0) rows (row ∷ remove_entry (nat_eq number) rows) t)) (above.0, above-removed bound number rows above.1))

  abbrev pub AreRising : List (ℕ × V) → Type 0
  AreRising rows = IsStrictlySortedBy nat_cmp (keys_of rows)

  pub rising_head : (row : ℕ × V) (rows : List (ℕ × V)) → AreRising (row ∷ rows) → AreAbove row.0 rows
  unfolding IsStrictlySortedBy
  rising_head row rows rising = rising.0

  pub rising_tail : (row : ℕ × V) (rows : List (ℕ × V)) → AreRising (row ∷ rows) → AreRising rows
  unfolding IsStrictlySortedBy
  rising_tail row rows rising = rising.1

  pub rising_cons : (row : ℕ × V) (rows : List (ℕ × V)) → AreAbove row.0 rows → AreRising rows → AreRising (row ∷ rows)
  unfolding IsStrictlySortedBy
  rising_cons row rows above rising = (above, rising)

  pub rising-removed : (number : ℕ) (rows : List (ℕ × V)) → AreRising rows → AreRising (remove_entry (nat_eq number) rows)
  rising-removed number [] rising = rising
  rising-removed number (row ∷ rows) rising =
      split (nat_eq number row.0)
      (λ t. subst AreRising (sym (cond-true (nat_eq number row.0) rows (row ∷ remove_entry (nat_eq number) rows) t)) (rising_tail row rows rising))
      (λ t. subst AreRising (sym (cond-false (nat_eq number row.0) rows (row ∷ remove_entry (nat_eq number) rows) t))
      (rising_cons row (remove_entry (nat_eq number) rows) (above-removed row.0 number rows (rising_head row rows rising)) (rising-removed number rows (rising_tail row rows rising))))

  -- nothing is found where all numbers are above
  pub none_below : (number : ℕ) (rows : List (ℕ × V)) → AreAbove number rows → lookup (nat_eq number) rows ≡ None
  none_below number [] above = refl
  none_below number (row ∷ rows) above =
      let f : nat_eq number row.0 ≡ false = ne_eqb number row.0 (λ h. let lt : number < row.0 = lt_from_less number row.0 above.0 in omega (arith, h, lt)) in
      lookup_later (nat_eq number) row rows f ∙ none_below number rows above.1

  pub lookup-removed_same : (number : ℕ) (rows : List (ℕ × V)) → AreRising rows → lookup (nat_eq number) (remove_entry (nat_eq number) rows) ≡ None
  lookup-removed_same number [] rising = refl
  lookup-removed_same number (row ∷ rows) rising =
      split (nat_eq number row.0)
      (λ t. let e : number ≡ row.0 = eqb-true number row.0 t in
      ap (lookup (nat_eq number)) (cond-true (nat_eq number row.0) _ _ t) ∙ none_below number rows (subst (λ (n : ℕ). AreAbove n rows) (sym e) (rising_head row rows rising)))
      (λ t. ap (lookup (nat_eq number)) (cond-false (nat_eq number row.0) _ _ t)
      ∙ (lookup_later (nat_eq number) row (remove_entry (nat_eq number) rows) t ∙ lookup-removed_same number rows (rising_tail row rows rising)))

  -- a bound above all numbers, as a test of each
  abbrev pub AreBelow : ℕ → List (ℕ × V) → Type 0
  AreBelow bound rows = (number : ℕ) (value : V) → lookup (nat_eq number) rows ≡ Some value → number < bound

  pub below_tail : (bound : ℕ) (row : ℕ × V) (rows : List (ℕ × V)) → AreRising (row ∷ rows) → AreBelow bound (row ∷ rows) → AreBelow bound rows
  below_tail bound row rows rising below number value e =
      let lt : row.0 < number = above_found row.0 number value rows (rising_head row rows rising) e in
      below number value (lookup_later (nat_eq number) row rows (ne_eqb number row.0 (λ h. omega (arith, h, lt))) ∙ e)

  pub below_head : (bound : ℕ) (row : ℕ × V) (rows : List (ℕ × V)) → AreBelow bound (row ∷ rows) → row.0 < bound
  below_head bound row rows below = below row.0 row.1 (lookup_here (nat_eq row.0) row rows (eq-eqb row.0 row.0 refl))

  pub above-push : (bound number : ℕ) (value : V) (rows : List (ℕ × V)) → AreAbove bound rows → bound < number → AreAbove bound (rows ++ (number, value) ∷ [])
  above-push bound number value [] above lt = (less_from_lt bound number lt, tt)
  above-push bound number value (row ∷ rows) above lt = (above.0, above-push bound number value rows above.1 lt)

  pub rising-push : (number : ℕ) (value : V) (rows : List (ℕ × V)) → AreRising rows → AreBelow number rows → AreRising (rows ++ (number, value) ∷ [])
  rising-push number value [] rising below = rising_cons (number, value) [] tt rising
  rising-push number value (row ∷ rows) rising below =
      rising_cons row (rows ++ (number, value) ∷ [])
      (above-push row.0 number value rows (rising_head row rows rising) (below_head number row rows below))
      (rising-push number value rows (rising_tail row rows rising) (below_tail number row rows rising below))
