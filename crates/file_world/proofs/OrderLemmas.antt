-- Values under keys in an order: what holds of them all, their order and their number, after one is put or goes.
use Rattle.std.proofs.Common.{◌≡◌, suc, ◌+◌, ◌≤◌, Bool, List, [], ◌∷◌, length, option_map, unwrap_or, sum_by, refl, sym, ap, ◌∙◌, subst, arith, Ordering, Less, Equal, Greater}
use Rattle.std.specs.List.{AllByRecursion}
use Rattle.std.specs.List.Sorted.{IsStrictlySortedBy}
use Rattle.std.specs.Map.{lookup, remove_entry, keys_of, values_of}
use Rattle.std.specs.BTreeMap.{insert_entry, is_at}
use Rattle.std.specs.Ordering.{match_ordering, ordering_reverse}
use Rattle.std.specs.Cmp.{IsTotalOrder}
use Rattle.std.proofs.lemmas.Bool.{cond-true, cond-false}
use Rattle.std.proofs.lemmas.List.Sums.{sum_by-cons}
use Rattle.std.proofs.lemmas.Map.Entries.{sum_by-insert_entry}
use Rattle.std.proofs.lemmas.Map.Keys.{sorted_head, sorted_tail}
use Rattle.file_world.proofs.RowLemmas.{split}

module _ {K V : Type 0} where
  all_of_keys : (P : K → Type 0) (rows : List (K × V)) → AllByRecursion P (keys_of rows) → AllByRecursion (λ row. P row.0) rows
  all_of_keys P [] all = tt
  all_of_keys P (row ∷ rows) all = (all.0, all_of_keys P rows all.1)

  keys_all : (P : K → Type 0) (rows : List (K × V)) → AllByRecursion (λ row. P row.0) rows → AllByRecursion P (keys_of rows)
  keys_all P [] all = tt
  keys_all P (row ∷ rows) all = (all.0, keys_all P rows all.1)

  -- ---- a row that goes

  pub all-gone : (P : K × V → Type 0) (test : K → Bool) (rows : List (K × V)) → AllByRecursion P rows → AllByRecursion P (remove_entry test rows)
  all-gone P test [] all = tt
  all-gone P test (row ∷ rows) all =
      split (test row.0)
      (λ t. subst (AllByRecursion P) (sym (cond-true (test row.0) rows (row ∷ remove_entry test rows) t)) all.1)
      (λ f. subst (AllByRecursion P) (sym (cond-false (test row.0) rows (row ∷ remove_entry test rows) f)) (all.0, all-gone P test rows all.1))

  pub length-gone_le : (test : K → Bool) (rows : List (K × V)) → length (remove_entry test rows) ≤ length rows
  length-gone_le test [] = omega arith
  length-gone_le test (row ∷ rows) =
      split (test row.0)
      (λ t. let e : length (remove_entry test (row ∷ rows)) ≡ length rows = ap length (cond-true (test row.0) rows (row ∷ remove_entry test rows) t) in omega (arith, e))
      (λ f. let e : length (remove_entry test (row ∷ rows)) ≡ suc (length (remove_entry test rows)) = ap length (cond-false (test row.0) rows (row ∷ remove_entry test rows) f) in omega (arith, e, length-gone_le test rows))

  ones : (rows : List (K × V)) → sum_by (λ _. 1) (values_of rows) ≡ length rows
  ones [] = refl
  ones (row ∷ rows) = let e : sum_by (λ _. 1) (values_of (row ∷ rows)) ≡ 1 + sum_by (λ _. 1) (values_of rows) = sum_by-cons (λ _. 1) row.1 (values_of rows) in omega (arith, e, ones rows)

module _ {K : Type 0} (cmp : K → K → Ordering) where
  sorted_cons : (key : K) (keys : List K) → AllByRecursion (λ other. cmp key other ≡ Less) keys → IsStrictlySortedBy cmp keys → IsStrictlySortedBy cmp (key ∷ keys)
  unfolding IsStrictlySortedBy
  sorted_cons key keys after sorted = (after, sorted)

  all_after : IsTotalOrder cmp → (key other : K) (keys : List K) → cmp key other ≡ Less → AllByRecursion (λ k. cmp other k ≡ Less) keys → AllByRecursion (λ k. cmp key k ≡ Less) keys
  all_after order key other [] less after = tt
  all_after order key other (k ∷ keys) less after = (order.trans key other k less after.0, all_after order key other keys less after.1)

module _ {K V : Type 0} (cmp : K → K → Ordering) where
  abbrev AreSorted : List (K × V) → Type 0
  AreSorted rows = IsStrictlySortedBy cmp (keys_of rows)

  -- ---- a row that is put

  -- what holds of all rows holds after one is put, if it does not turn on the value that the key had
  pub all-put : (P : K × V → Type 0) (key : K) (value : V) (rows : List (K × V)) → AllByRecursion P rows → P (key, value) → ((k : K) (v : V) → P (k, v) → P (k, value)) → AllByRecursion P (insert_entry cmp rows key value)
  all-put P key value [] all new same = (new, tt)
  all-put P key value (row ∷ rows) all new same = by (cmp key row.0) (all-put P key value rows all.1 new same)
    where
      by : (o : Ordering) → AllByRecursion P (insert_entry cmp rows key value) → AllByRecursion P (match_ordering o ((key, value) ∷ row ∷ rows) ((row.0, value) ∷ rows) (row ∷ insert_entry cmp rows key value))
      by Less rest = (new, all)
      by Equal rest = (same row.0 row.1 all.0, all.1)
      by Greater rest = (all.0, rest)

  pub sorted-put : IsTotalOrder cmp → (key : K) (value : V) (rows : List (K × V)) → AreSorted rows → AreSorted (insert_entry cmp rows key value)
  sorted-put order key value [] sorted = sorted_cons cmp key [] tt sorted
  sorted-put order key value (row ∷ rows) sorted = by (cmp key row.0) refl (sorted-put order key value rows (sorted_tail cmp row.0 (keys_of rows) sorted))
    where
      by : (o : Ordering) → cmp key row.0 ≡ o → AreSorted (insert_entry cmp rows key value) → AreSorted (match_ordering o ((key, value) ∷ row ∷ rows) ((row.0, value) ∷ rows) (row ∷ insert_entry cmp rows key value))
      by Less e rest = sorted_cons cmp key (row.0 ∷ keys_of rows) (e, all_after cmp order key row.0 (keys_of rows) e (sorted_head cmp row.0 (keys_of rows) sorted)) sorted
      by Equal e rest = sorted
      by Greater e rest =
          let less : cmp row.0 key ≡ Less = order.antisymm row.0 key ∙ ap ordering_reverse e in
          let after = all-put (λ r. cmp row.0 r.0 ≡ Less) key value rows (all_of_keys (λ k. cmp row.0 k ≡ Less) rows (sorted_head cmp row.0 (keys_of rows) sorted)) less (λ k v h. h) in
          sorted_cons cmp row.0 (keys_of (insert_entry cmp rows key value)) (keys_all (λ k. cmp row.0 k ≡ Less) (insert_entry cmp rows key value) after) rest

  pub length-put : IsTotalOrder cmp → (key : K) (value : V) (rows : List (K × V)) → AreSorted rows → length (insert_entry cmp rows key value) + unwrap_or (option_map (λ _. 1) (lookup (is_at (cmp key)) rows)) 0 ≡ length rows + 1
  length-put order key value rows sorted =
      let e = sum_by-insert_entry (λ _. 1) order rows key value sorted in
      let before = ones rows in
      let after = ones (insert_entry cmp rows key value) in
      omega (arith, e, before, after)

  -- ---- a row that goes

  pub sorted-gone : (test : K → Bool) (rows : List (K × V)) → AreSorted rows → AreSorted (remove_entry test rows)
  sorted-gone test [] sorted = sorted
  sorted-gone test (row ∷ rows) sorted =
      split (test row.0)
      (λ t. subst AreSorted (sym (cond-true (test row.0) rows (row ∷ remove_entry test rows) t)) (sorted_tail cmp row.0 (keys_of rows) sorted))
      (λ f. let after = all-gone (λ r. cmp row.0 r.0 ≡ Less) test rows (all_of_keys (λ k. cmp row.0 k ≡ Less) rows (sorted_head cmp row.0 (keys_of rows) sorted)) in
      subst AreSorted (sym (cond-false (test row.0) rows (row ∷ remove_entry test rows) f))
      (sorted_cons cmp row.0 (keys_of (remove_entry test rows)) (keys_all (λ k. cmp row.0 k ≡ Less) (remove_entry test rows) after) (sorted-gone test rows (sorted_tail cmp row.0 (keys_of rows) sorted))))
