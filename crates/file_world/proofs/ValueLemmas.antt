-- Values under names in the byte order of the names: look-ups after one is put or goes.
use Rattle.std.proofs.Common.{◌≡◌, ◌≢◌, ℕ, true, false, cond, Option, Some, None, List, [], ◌∷◌, refl, sym, ap, ◌∙◌, subst, nat_cmp, is_eq, bytes_eq, Ordering, Less, Equal, Greater}
use Rattle.std.specs.List.{AllByRecursion}
use Rattle.std.specs.List.Sorted.{IsStrictlySortedBy}
use Rattle.std.specs.Map.{lookup, remove_entry, keys_of}
use Rattle.std.specs.BTreeMap.{insert_entry}
use Rattle.std.specs.Ordering.{match_ordering}
use Rattle.std.specs.Cmp.Lexicographic.{slice_cmp}
use Rattle.std.proofs.lemmas.Bool.{cond-true, cond-false, false_from_ne_true}
use Rattle.std.proofs.lemmas.Map.Text.{is_eq-slice_cmp}
use Rattle.std.proofs.lemmas.Map.Lookups.{exact_bytes}
use Rattle.std.proofs.lemmas.Map.Keys.{sorted_head, sorted_tail}
use Rattle.std.proofs.lemmas.Slice.Eq.{bytes_eq-Decides}
use Rattle.file_world.proofs.RowLemmas.{split, lookup_here, lookup_later}

abbrev order : List ℕ → List ℕ → Ordering
order = slice_cmp nat_cmp

same_name : (name other : List ℕ) → name ≡ other → bytes_eq name other ≡ true
same_name name other same = (bytes_eq-Decides name other).1 same

other_name : (name other : List ℕ) → name ≢ other → bytes_eq name other ≡ false
other_name name other apart = false_from_ne_true (bytes_eq name other) (λ t. apart ((bytes_eq-Decides name other).0 t))

-- names of which one comes before the other are not the same
less_name : (name other : List ℕ) → order name other ≡ Less → bytes_eq name other ≡ false
less_name name other e = sym (is_eq-slice_cmp name other) ∙ ap is_eq e

greater_name : (name other : List ℕ) → order name other ≡ Greater → bytes_eq name other ≡ false
greater_name name other e = sym (is_eq-slice_cmp name other) ∙ ap is_eq e

module _ {V : Type 0} where
  abbrev put_in : (o : Ordering) → List ℕ → V → List ℕ × V → List (List ℕ × V) → List (List ℕ × V)
  put_in o name value row rows = match_ordering o ((name, value) ∷ row ∷ rows) ((row.0, value) ∷ rows) (row ∷ insert_entry order rows name value)

  pub value-put_same : (rows : List (List ℕ × V)) (name : List ℕ) (value : V) → lookup (bytes_eq name) (insert_entry order rows name value) ≡ Some value
  value-put_same [] name value = lookup_here (bytes_eq name) (name, value) [] (same_name name name refl)
  value-put_same (row ∷ rows) name value = by (order name row.0) refl (value-put_same rows name value)
    where
      by : (o : Ordering) → order name row.0 ≡ o → lookup (bytes_eq name) (insert_entry order rows name value) ≡ Some value → lookup (bytes_eq name) (put_in o name value row rows) ≡ Some value
      by Less e rest = lookup_here (bytes_eq name) (name, value) (row ∷ rows) (same_name name name refl)
      by Equal e rest = lookup_here (bytes_eq name) (row.0, value) rows (same_name name row.0 (exact_bytes name row.0 e))
      by Greater e rest = lookup_later (bytes_eq name) row (insert_entry order rows name value) (greater_name name row.0 e) ∙ rest

  pub value-put_other : (rows : List (List ℕ × V)) (name : List ℕ) (value : V) (other : List ℕ) → other ≢ name → lookup (bytes_eq other) (insert_entry order rows name value) ≡ lookup (bytes_eq other) rows
  value-put_other [] name value other apart = lookup_later (bytes_eq other) (name, value) [] (other_name other name apart)
  value-put_other (row ∷ rows) name value other apart = by (order name row.0) refl (value-put_other rows name value other apart)
    where
      by : (o : Ordering) → order name row.0 ≡ o → lookup (bytes_eq other) (insert_entry order rows name value) ≡ lookup (bytes_eq other) rows → lookup (bytes_eq other) (put_in o name value row rows) ≡ lookup (bytes_eq other) (row ∷ rows)
      by Less e rest = lookup_later (bytes_eq other) (name, value) (row ∷ rows) (other_name other name apart)
      by Equal e rest =
          let f : bytes_eq other row.0 ≡ false = other_name other row.0 (λ h. apart (h ∙ sym (exact_bytes name row.0 e))) in
          lookup_later (bytes_eq other) (row.0, value) rows f ∙ sym (lookup_later (bytes_eq other) row rows f)
      by Greater e rest = ap (λ (found : Option V). cond (bytes_eq other row.0) (Some row.1) found) rest

  pub value-gone_other : (rows : List (List ℕ × V)) (name other : List ℕ) → other ≢ name → lookup (bytes_eq other) (remove_entry (bytes_eq name) rows) ≡ lookup (bytes_eq other) rows
  value-gone_other [] name other apart = refl
  value-gone_other (row ∷ rows) name other apart =
      split (bytes_eq name row.0)
      (λ t. let f : bytes_eq other row.0 ≡ false = other_name other row.0 (λ h. apart (h ∙ sym ((bytes_eq-Decides name row.0).0 t))) in
      ap (lookup (bytes_eq other)) (cond-true (bytes_eq name row.0) rows (row ∷ remove_entry (bytes_eq name) rows) t) ∙ sym (lookup_later (bytes_eq other) row rows f))
      (λ f. ap (lookup (bytes_eq other)) (cond-false (bytes_eq name row.0) rows (row ∷ remove_entry (bytes_eq name) rows) f)
      ∙ ap (λ (found : Option V). cond (bytes_eq other row.0) (Some row.1) found) (value-gone_other rows name other apart))

  none_after : (rows : List (List ℕ × V)) (name : List ℕ) → AllByRecursion (λ key. order name key ≡ Less) (keys_of rows) → lookup (bytes_eq name) rows ≡ None
  none_after [] name after = refl
  none_after (row ∷ rows) name after = lookup_later (bytes_eq name) row rows (less_name name row.0 after.0) ∙ none_after rows name after.1

  pub value-gone_same : (rows : List (List ℕ × V)) (name : List ℕ) → IsStrictlySortedBy order (keys_of rows) → lookup (bytes_eq name) (remove_entry (bytes_eq name) rows) ≡ None
  value-gone_same [] name rising = refl
  value-gone_same (row ∷ rows) name rising =
      split (bytes_eq name row.0)
      (λ t. let same : name ≡ row.0 = (bytes_eq-Decides name row.0).0 t in
      ap (lookup (bytes_eq name)) (cond-true (bytes_eq name row.0) rows (row ∷ remove_entry (bytes_eq name) rows) t)
      ∙ none_after rows name (subst (λ (key : List ℕ). AllByRecursion (λ other. order key other ≡ Less) (keys_of rows)) (sym same) (sorted_head order row.0 (keys_of rows) rising)))
      (λ f. ap (lookup (bytes_eq name)) (cond-false (bytes_eq name row.0) rows (row ∷ remove_entry (bytes_eq name) rows) f)
      ∙ (lookup_later (bytes_eq name) row (remove_entry (bytes_eq name) rows) f ∙ value-gone_same rows name (sorted_tail order row.0 (keys_of rows) rising)))
