-- Rows whose keys rise and each of which is a mark within the limits.
use Rattle.std.proofs.Common.{◌≡◌, ◌↔◌, ℕ, ◌+◌, ◌<◌, Bool, true, false, Some, List, [], ◌∷◌, length, get_or, map, refl, sym, ap, ◌∙◌, subst, arith, nat_eq, nat_lt, nat_cmp, Ordering, Less, Equal, Greater}
use Rattle.std.specs.Prelude.{◌&&◌, IsTrue}
use Rattle.std.specs.List.{list_all, AllByRecursion, IsAllAdjacentAnswer}
use Rattle.std.specs.List.Sorted.{IsStrictlySortedBy}
use Rattle.std.specs.Map.{keys_of}
use Rattle.std.specs.Ordering.{is_lt}
use Rattle.std.specs.Cmp.{IsTotalOrder}
use Rattle.std.proofs.lemmas.Bool.{and_parts, false≢true, eq-eqb, ne_eqb, lt-ltb, ltb-true}
use Rattle.std.proofs.lemmas.List.{get_or-map, length-map}
use Rattle.std.proofs.lemmas.Option.{none-some, same_Some}
use Rattle.std.proofs.lemmas.Map.Keys.{sorted_from_all_adjacent, Less-from_sorted}
use Rattle.file_world.specs.Attributes.{Mark, mark_at, IsMark, AreMarks}
use Rattle.file_world.proofs.RowLemmas.{split, lookup_here, lookup_later, cond_at_true, cond_at_false, lt_from_less, less_from_lt, AreRising, rising_head, rising_tail, above_found}
use Rattle.node_rows.specs.declared.rows.MetaRow.{MetaRow}
use Rattle.node_rows.specs.Rows.{meta_row}

-- ---- a test of neighbours

none_rise : {K : Type 0} (cmp : K → K → Ordering) → IsStrictlySortedBy cmp []
unfolding IsStrictlySortedBy
none_rise cmp = tt

-- the test says of two items that the first has the lesser key
abbrev pub TellsLess : {X K : Type 0} → (K → K → Ordering) → (X → K) → (X → X → Bool) → Type 0
TellsLess {X} cmp key less = (x y : X) → (less x y ≡ true) ↔ (cmp (key x) (key y) ≡ Less)

module _ {X K : Type 0} (cmp : K → K → Ordering) (order : IsTotalOrder cmp) (key : X → K) (less : X → X → Bool) (tells : TellsLess cmp key less) where
  rise_from : (xs : List X) → ((k : ℕ) (d : X) → k + 1 < length xs → true ≡ less (get_or xs k d) (get_or xs (k + 1) d)) → IsStrictlySortedBy cmp (map key xs)
  rise_from [] each = none_rise cmp
  rise_from (first ∷ xs) each =
      let all : List X = first ∷ xs in
      let len : length (map key all) ≡ length all = length-map all key in
      sorted_from_all_adjacent order (map key all) (key first)
      (λ k lt. let within : k + 1 < length all = omega (arith, lt, len) in
      let here : k < length all = omega (arith, within) in
      let one : get_or (map key all) k (key first) ≡ key (get_or all k first) = get_or-map key all k first (key first) here in
      let next : get_or (map key all) (k + 1) (key first) ≡ key (get_or all (k + 1) first) = get_or-map key all (k + 1) first (key first) within in
      subst (λ (a : K). cmp a (get_or (map key all) (k + 1) (key first)) ≡ Less) (sym one)
      (subst (λ (b : K). cmp (key (get_or all k first)) b ≡ Less) (sym next)
      ((tells (get_or all k first) (get_or all (k + 1) first)).0 (sym (each k first within)))))

  not_rising : (xs : List X) (k : ℕ) → k + 1 < length xs → ((d : X) → false ≡ less (get_or xs k d) (get_or xs (k + 1) d)) → IsStrictlySortedBy cmp (map key xs) → ⊥
  not_rising [] k lt not rising = omega (arith, lt)
  not_rising (first ∷ xs) k within not rising =
      let all : List X = first ∷ xs in
      let len : length (map key all) ≡ length all = length-map all key in
      let here : k < length all = omega (arith, within) in
      let one : get_or (map key all) k (key first) ≡ key (get_or all k first) = get_or-map key all k first (key first) here in
      let next : get_or (map key all) (k + 1) (key first) ≡ key (get_or all (k + 1) first) = get_or-map key all (k + 1) first (key first) within in
      let rises : cmp (get_or (map key all) k (key first)) (get_or (map key all) (k + 1) (key first)) ≡ Less =
      Less-from_sorted cmp (map key all) k (k + 1) (key first) rising (omega arith) (omega (arith, within, len)) in
      let at : cmp (key (get_or all k first)) (key (get_or all (k + 1) first)) ≡ Less =
      subst (λ (a : K). cmp a (key (get_or all (k + 1) first)) ≡ Less) one (subst (λ (b : K). cmp (get_or (map key all) k (key first)) b ≡ Less) next rises) in
      false≢true (not first ∙ (tells (get_or all k first) (get_or all (k + 1) first)).1 at)

  -- what a test of all neighbours says of the keys
  pub rise : (xs : List X) (answer : Bool) → IsAllAdjacentAnswer (λ x y b. b ≡ less x y) xs answer → IsTrue answer ↔ IsStrictlySortedBy cmp (map key xs)
  rise xs true each = (λ t. rise_from xs (λ k d lt. each k d lt), λ rising. refl)
  rise xs false first = (λ t. absurd (false≢true t), λ rising. absurd (not_rising xs first.0 first.1 first.2 rising))

pub tells_numbers : {X : Type 0} (key : X → ℕ) → TellsLess nat_cmp key (λ x y. nat_lt (key x) (key y))
tells_numbers key x y = (λ t. less_from_lt (key x) (key y) (ltb-true (key x) (key y) t), λ e. lt-ltb (key x) (key y) (lt_from_less (key x) (key y) e))

is_less : (o : Ordering) → is_lt o ≡ true → o ≡ Less
is_less Less t = refl
is_less Equal t = absurd (false≢true t)
is_less Greater t = absurd (false≢true t)

pub tells_keys : {X K : Type 0} (cmp : K → K → Ordering) (key : X → K) → TellsLess cmp key (λ x y. is_lt (cmp (key x) (key y)))
tells_keys cmp key x y = (is_less (cmp (key x) (key y)), λ e. ap is_lt e)

-- ---- attributes

pub each_passes : {X : Type 0} (p : X → Bool) (xs : List X) → list_all p xs ≡ true → AllByRecursion (λ x. IsTrue (p x)) xs
each_passes p [] e = tt
each_passes p (x ∷ xs) e = let parts = and_parts (p x) (list_all p xs) e in (parts.0, each_passes p xs parts.1)

pub all_pass : {X : Type 0} (p : X → Bool) (xs : List X) → AllByRecursion (λ x. IsTrue (p x)) xs → list_all p xs ≡ true
all_pass p [] each = refl
all_pass p (x ∷ xs) each = ap (λ (b : Bool). b && list_all p xs) each.0 ∙ all_pass p xs each.1

-- ---- rows that are marks

pub keys-rows : (rows : List MetaRow) → map (λ row. row.number.0) rows ≡ keys_of (map meta_row rows)
keys-rows [] = refl
keys-rows (row ∷ rows) = ap (λ (keys : List ℕ). row.number.0 ∷ keys) (keys-rows rows)

abbrev pub AreEachMarks : List MetaRow → Type 0
AreEachMarks rows = AllByRecursion (λ row. IsMark (meta_row row).1) rows

found_mark : (rows : List MetaRow) (number : ℕ) (mark : Mark) → AreEachMarks rows → mark_at (map meta_row rows) number ≡ Some mark → IsMark mark
found_mark [] number mark each e = absurd (none-some _ e)
found_mark (row ∷ rows) number mark each e =
    split (nat_eq number row.number.0)
    (λ t. subst IsMark (same_Some _ _ (cond_at_true (nat_eq number row.number.0) _ _ _ t e)) each.0)
    (λ f. found_mark rows number mark each.1 (cond_at_false (nat_eq number row.number.0) _ _ _ f e))

each_mark : (rows : List MetaRow) → AreRising (map meta_row rows) → ((number : ℕ) (mark : Mark) → mark_at (map meta_row rows) number ≡ Some mark → IsMark mark) → AreEachMarks rows
each_mark [] rising within = tt
each_mark (row ∷ rows) rising within =
    let first : ℕ × Mark = meta_row row in
    let later : (number : ℕ) (mark : Mark) → mark_at (map meta_row rows) number ≡ Some mark → IsMark mark = λ number mark e.
    let above = above_found first.0 number mark (map meta_row rows) (rising_head first (map meta_row rows) rising) e in
    within number mark (lookup_later (nat_eq number) first (map meta_row rows) (ne_eqb number first.0 (λ same. omega (arith, same, above))) ∙ e) in
    (within first.0 first.1 (lookup_here (nat_eq first.0) first (map meta_row rows) (eq-eqb first.0 first.0 refl)), each_mark rows (rising_tail first (map meta_row rows) rising) later)

-- rows are marks within the limits exactly if their numbers rise and each is one
pub marks_from_each : (rows : List MetaRow) → IsStrictlySortedBy nat_cmp (keys_of (map meta_row rows)) → AreEachMarks rows → AreMarks (map meta_row rows)
marks_from_each rows rising each = record { within = λ number mark e. found_mark rows number mark each e; rising = rising }

pub each_from_marks : (rows : List MetaRow) → AreMarks (map meta_row rows) → AreEachMarks rows
each_from_marks rows are = each_mark rows are.rising are.within
