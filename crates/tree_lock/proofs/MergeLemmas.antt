-- A history of numbered entries is a merge of the entries under its numbers.
use Rattle.std.proofs.Common.{◌≡◌, ◌≢◌, ◌⊎◌, ℕ, suc, ◌+◌, ◌≤◌, List, [], ◌∷◌, ◌++◌, map, length, eqb, false, true≢false, eq-eqb, refl, sym, ap, ◌∙◌, subst, ⊎_elim, inl, inr, arith, length-append}
use Rattle.std.specs.Prelude.{Some, slice_get, slice_set}
use Rattle.std.specs.List.{AllByRecursion, IsDistinct}
use mathlib.Core.Logic.{dite}
use native.Mathlib.Decide.{ℕ_discrete, dec_le}
use Rattle.tree_lock.specs.Entries.{of_number, AllOfNumber}
use Rattle.tree_lock.specs.Seen.{Retired, AreOwn, DoormanView}
use Rattle.tree_lock.specs.Closing.{IsClosed}
use Rattle.tree_lock.specs.Merge.{Merges, ends, takes, IsMerge}
use Rattle.tree_lock.proofs.EntryLemmas.{of_number-here, of_number-else, of_number-append, of_number-all, of_number-none}
use Rattle.tree_lock.proofs.NumberLemmas.{IsAmong, each_made, among_of}

module _ {E : Type 0} where
  -- the entries under each of these numbers
  abbrev lists_of : List ℕ → List (ℕ × E) → List (List (ℕ × E))
  lists_of ns es = map (λ n. of_number n es) ns

  all_empty : (none : List (ℕ × E)) → none ≡ [] → (ns : List ℕ) → AllByRecursion (λ (l : List (ℕ × E)). l ≡ []) (lists_of ns none)
  all_empty none is [] = tt
  all_empty none is (n ∷ ns) = (ap (of_number n) is, all_empty none is ns)

  -- an entry under another number changes none of the lists
  others : (e : ℕ × E) (es : List (ℕ × E)) (ns : List ℕ) → AllByRecursion (λ y. eqb e.0 y ≡ false) ns → lists_of ns (e ∷ es) ≡ lists_of ns es
  others e es [] apart = refl
  others e es (n ∷ ns) apart = λ i. of_number-else n e es (differs apart.0) i ∷ others e es ns apart.1 i
    where
      differs : eqb e.0 n ≡ false → e.0 ≢ n
      differs b is = true≢false (sym (eq-eqb e.0 n is) ∙ b)

  -- an entry is the first of the list of its number
  abbrev IsTaken : ℕ × E → List (ℕ × E) → List ℕ → ℕ → Type 0
  IsTaken e es ns k = (slice_get (lists_of ns (e ∷ es)) k ≡ Some (e ∷ of_number e.0 es)) × (slice_set (lists_of ns (e ∷ es)) k (of_number e.0 es) ≡ lists_of ns es)

  taken : (e : ℕ × E) (es : List (ℕ × E)) (ns : List ℕ) → IsDistinct eqb ns → IsAmong e.0 ns → (k : ℕ) × IsTaken e es ns k
  unfolding IsDistinct
  taken e es [] distinct here = absurd here
  taken e es (n ∷ ns) distinct here = dite (ℕ_discrete e.0 n)
      (λ is.
      let head : of_number n (e ∷ es) ≡ e ∷ of_number e.0 es = of_number-here n e es is ∙ ap (λ m. e ∷ of_number m es) (sym is) in
      let apart : AllByRecursion (λ y. eqb e.0 y ≡ false) ns = subst (λ m. AllByRecursion (λ y. eqb m y ≡ false) ns) (sym is) distinct.0 in
      (0, (ap Some head, λ i. of_number (is i) es ∷ others e es ns apart i)))
      (λ ne.
      let found = taken e es ns distinct.1 (⊎_elim (λ (is : e.0 ≡ n). absurd (ne is)) (λ (t : IsAmong e.0 ns). t) here) in
      (suc found.0, (found.1.0, λ i. of_number-else n e es ne i ∷ found.1.1 i)))

  merges : (ns : List ℕ) → IsDistinct eqb ns → (es : List (ℕ × E)) → AllByRecursion (λ (e : ℕ × E). IsAmong e.0 ns) es → Merges (lists_of ns es) es
  merges ns distinct [] known = ends (all_empty [] refl ns)
  merges ns distinct (e ∷ es) known =
      let found = taken e es ns distinct known.0 in takes found.0 found.1.0 (subst (λ l. Merges l es) (sym found.1.1) (merges ns distinct es known.1))

  -- what holds of each number that has entries holds of each entry's
  each_entry : (Q : ℕ → Type 0) (es : List (ℕ × E)) → ((n : ℕ) → (of_number n es ≡ []) ⊎ Q n) → AllByRecursion (λ (e : ℕ × E). Q e.0) es
  each_entry Q [] known = tt
  each_entry Q (e ∷ es) known = (
    ⊎_elim (λ (none : of_number e.0 (e ∷ es) ≡ []). absurd (not_empty e (of_number e.0 es) (sym (of_number-here e.0 e es refl) ∙ none))) (λ (q : Q e.0). q) (known e.0),
    each_entry Q es (λ n. ⊎_elim
        (λ (none : of_number n (e ∷ es) ≡ []). dite (ℕ_discrete e.0 n) (λ is. absurd (not_empty e (of_number n es) (sym (of_number-here n e es is) ∙ none))) (λ ne. inl (sym (of_number-else n e es ne) ∙ none)))
        (λ (q : Q n). inr q)
        (known n)),
  )
    where
      not_empty : (x : ℕ × E) (xs : List (ℕ × E)) → x ∷ xs ≡ [] → ⊥
      not_empty x xs e = cc

  all_of_number : (n : ℕ) (es : List (ℕ × E)) → AllOfNumber n (of_number n es)
  all_of_number n [] = tt
  all_of_number n (e ∷ es) = dite (ℕ_discrete e.0 n)
      (λ is. subst (AllOfNumber n) (sym (of_number-here n e es is)) (is, all_of_number n es))
      (λ ne. subst (AllOfNumber n) (sym (of_number-else n e es ne)) (all_of_number n es))

  nothing_more : (xs ys : List (ℕ × E)) → xs ++ ys ≡ xs → ys ≡ []
  nothing_more xs [] e = refl
  nothing_more xs (y ∷ ys) e = let long : length (xs ++ y ∷ ys) ≡ length xs = ap length e in absurd (omega (arith, length-append xs (y ∷ ys), long))

  own_lists : (rest : List (ℕ × E)) (retired : List (Retired E)) → AllByRecursion (λ (r : Retired E). of_number r.0 rest ≡ r.1) retired → lists_of (map (λ (r : Retired E). r.0) retired) rest ≡ map (λ (r : Retired E). r.1) retired
  own_lists rest [] own = refl
  own_lists rest (r ∷ rs) own = λ i. own.0 i ∷ own_lists rest rs own.1 i

  -- the entries of retired passes are not among the opening ones
  own_after : (opening rest : List (ℕ × E)) (made : ℕ) (retired : List (Retired E)) → AllOfNumber 0 opening → AllByRecursion (λ (r : Retired E). (1 ≤ r.0) × (r.0 ≤ made)) retired → AreOwn (opening ++ rest) retired
      → AllByRecursion (λ (r : Retired E). of_number r.0 rest ≡ r.1) retired
  own_after opening rest made [] all within own = tt
  own_after opening rest made (r ∷ rs) all within own =
      let low : 1 ≤ r.0 = within.0.0 in
      let none : of_number r.0 opening ≡ [] = of_number-none r.0 0 opening (λ e. omega arith) all in
      (sym (of_number-append r.0 opening rest ∙ ap (λ l. l ++ of_number r.0 rest) none) ∙ own.0, own_after opening rest made rs all within.1 own.1)

  pub closed_merges : (door : DoormanView E) (history : List (ℕ × E)) → IsClosed door history → IsMerge door.opening door.retired history
  closed_merges door history closed =
      let knows = closed.knows in
      let rest : List (ℕ × E) = knows.opened.0 in
      let is : history ≡ door.opening ++ rest = sym knows.opened.1 in
      let all : AllOfNumber 0 door.opening = subst (AllOfNumber 0) knows.opening (all_of_number 0 history) in
      let own = own_after door.opening rest door.made door.retired all knows.numbers.within (subst (λ h. AreOwn h door.retired) is knows.own) in
      let in_rest : (n : ℕ) → of_number n history ≡ of_number n door.opening ++ of_number n rest = λ n. ap (of_number n) is ∙ of_number-append n door.opening rest in
      let none_opening : of_number 0 rest ≡ [] = nothing_more door.opening (of_number 0 rest) (ap (λ l. l ++ of_number 0 rest) (sym (of_number-all 0 door.opening all)) ∙ sym (in_rest 0) ∙ knows.opening) in
      let numbers : List ℕ = map (λ (r : Retired E). r.0) door.retired in
      let known : (n : ℕ) → (of_number n rest ≡ []) ⊎ IsAmong n numbers = λ n. dite (ℕ_discrete n 0)
      (λ zero_is. inl (ap (λ m. of_number m rest) zero_is ∙ none_opening))
      (λ ne. dite (dec_le n door.made)
      (λ high. let low : 1 ≤ n = omega arith in inr (each_made (λ m. IsAmong m numbers) door.made door.retired n knows.numbers closed.all (among_of door.retired) low high))
      (λ above.
      let high : door.made + 1 ≤ n = omega arith in
      inl (ends_empty (of_number n door.opening) (of_number n rest) (sym (in_rest n) ∙ knows.none_above n high)))) in
      record { rest = rest; is = is; merged = subst (λ l. Merges l rest) (own_lists rest door.retired own) (merges numbers knows.numbers.distinct rest (each_entry (λ n. IsAmong n numbers) rest known)) }
    where
      ends_empty : (xs ys : List (ℕ × E)) → xs ++ ys ≡ [] → ys ≡ []
      ends_empty [] ys e = e
      ends_empty (x ∷ xs) ys e = absurd (cc)
