-- Places of nodes: what stands at one, and that they differ, after a change.
use Rattle.std.proofs.Common.{◌≡◌, ℕ, ◌<◌, true, false, Some, None, List, [], ◌∷◌, ◌++◌, refl, sym, ap, ap₂, ◌∙◌, subst, arith, nat_eq}
use Rattle.std.specs.List.{AllByRecursion, IsDistinct}
use Rattle.std.specs.Map.{remove_entry, keys_of}
use Rattle.std.proofs.lemmas.Bool.{cond-true, cond-false, false≢true, eq-eqb, ne_eqb, eqb-true, and_parts, and_from}
use Rattle.std.proofs.lemmas.Slice.Eq.{bytes_eq-Decides}
use Rattle.std.proofs.lemmas.Option.{none-some, same_Some}
use Rattle.file_world.specs.Tree.{Place, Node, Nodes, node_at, number_at, is_place, places_of}
use Rattle.file_world.specs.TreeEffect.{at, revise, with_place}
use Rattle.file_world.proofs.RowLemmas.{split, cond_at_true, cond_at_false, lookup_here, lookup_later, above_found, AreRising, rising_head, rising_tail}

pub is_place-true : (place other : Place) → is_place place other ≡ true → place ≡ other
is_place-true place other e =
    let parts = and_parts _ _ e in
    ap₂ (λ (directory : ℕ) (name : List ℕ). at directory name) (eqb-true place.directory other.directory parts.0) ((bytes_eq-Decides place.name other.name).0 parts.1)

pub is_place-refl : (place : Place) → is_place place place ≡ true
is_place-refl place = and_from _ _ (eq-eqb place.directory place.directory refl) ((bytes_eq-Decides place.name place.name).1 refl)

pub is_place-same : (place other : Place) → place ≡ other → is_place place other ≡ true
is_place-same place other e = subst (λ (p : Place). is_place place p ≡ true) e (is_place-refl place)

pub is_place-flip : (place other : Place) → is_place place other ≡ false → is_place other place ≡ false
is_place-flip place other e =
    split (is_place other place)
    (λ t. absurd (false≢true (sym e ∙ is_place-same place other (sym (is_place-true other place t)))))
    (λ f. f)

-- ---- places that differ

abbrev pub DoPlacesDiffer : Nodes → Type 0
DoPlacesDiffer rows = IsDistinct is_place (keys_of (places_of rows))

-- no node stands at the place
abbrev pub IsFree : Place → Nodes → Type 0
IsFree place rows = AllByRecursion (λ other. is_place place other ≡ false) (keys_of (places_of rows))

pub differ_head : (row : ℕ × Node) (rows : Nodes) → DoPlacesDiffer (row ∷ rows) → IsFree row.1.place rows
unfolding IsDistinct
differ_head row rows differ = differ.0

pub differ_tail : (row : ℕ × Node) (rows : Nodes) → DoPlacesDiffer (row ∷ rows) → DoPlacesDiffer rows
unfolding IsDistinct
differ_tail row rows differ = differ.1

pub differ_cons : (row : ℕ × Node) (rows : Nodes) → IsFree row.1.place rows → DoPlacesDiffer rows → DoPlacesDiffer (row ∷ rows)
unfolding IsDistinct
differ_cons row rows free differ = (free, differ)

pub IsFree-from_none : (place : Place) (rows : Nodes) → number_at rows place ≡ None → IsFree place rows
IsFree-from_none place [] e = tt
IsFree-from_none place (row ∷ rows) e =
    split (is_place place row.1.place)
    (λ t. absurd (none-some _ (sym (cond_at_true (is_place place row.1.place) _ _ _ t e))))
    (λ f. (f, IsFree-from_none place rows (cond_at_false (is_place place row.1.place) _ _ _ f e)))

pub none_from_IsFree : (place : Place) (rows : Nodes) → IsFree place rows → number_at rows place ≡ None
none_from_IsFree place [] free = refl
none_from_IsFree place (row ∷ rows) free = cond-false (is_place place row.1.place) _ _ free.0 ∙ none_from_IsFree place rows free.1

pub free_apart : (place : Place) (number : ℕ) (node : Node) (rows : Nodes) → IsFree place rows → node_at rows number ≡ Some node → is_place place node.place ≡ false
free_apart place number node [] free e = absurd (none-some _ e)
free_apart place number node (row ∷ rows) free e =
    split (nat_eq number row.0)
    (λ t. subst (λ (n : Node). is_place place n.place ≡ false) (same_Some _ _ (cond_at_true (nat_eq number row.0) _ _ _ t e)) free.0)
    (λ f. free_apart place number node rows free.1 (cond_at_false (nat_eq number row.0) _ _ _ f e))

-- ---- what stands at a place, and where a node stands

-- a node with its number and place
pub record Stands (rows : Nodes) (number : ℕ) (place : Place) : Type 0 where
  pub node : Node
  pub found : node_at rows number ≡ Some node
  pub there : node.place ≡ place

pub stands_at : (place : Place) (number : ℕ) (rows : Nodes) → AreRising rows → number_at rows place ≡ Some number → Stands rows number place
stands_at place number [] rising e = absurd (none-some _ e)
stands_at place number (row ∷ rows) rising e =
    split (is_place place row.1.place)
    (λ t. let n : row.0 ≡ number = same_Some _ _ (cond_at_true (is_place place row.1.place) _ _ _ t e) in
    subst (λ (m : ℕ). Stands (row ∷ rows) m place) n
    (record { node = row.1; found = lookup_here (nat_eq row.0) row rows (eq-eqb row.0 row.0 refl); there = sym (is_place-true place row.1.place t) }))
    (λ f. let rest = stands_at place number rows (rising_tail row rows rising) (cond_at_false (is_place place row.1.place) _ _ _ f e) in
    let lt : row.0 < number = above_found row.0 number rest.node rows (rising_head row rows rising) rest.found in
    record { node = rest.node; found = lookup_later (nat_eq number) row rows (ne_eqb number row.0 (λ h. omega (arith, h, lt))) ∙ rest.found; there = rest.there })

pub number_of_place : (number : ℕ) (node : Node) (rows : Nodes) → DoPlacesDiffer rows → node_at rows number ≡ Some node → number_at rows node.place ≡ Some number
number_of_place number node [] differ e = absurd (none-some _ e)
number_of_place number node (row ∷ rows) differ e =
    split (nat_eq number row.0)
    (λ t. let same : row.1 ≡ node = same_Some _ _ (cond_at_true (nat_eq number row.0) _ _ _ t e) in
    cond-true (is_place node.place row.1.place) _ _ (is_place-same node.place row.1.place (ap (λ (n : Node). n.place) (sym same)))
    ∙ ap (λ (n : ℕ). Some n) (sym (eqb-true number row.0 t)))
    (λ f. let rest = cond_at_false (nat_eq number row.0) _ _ _ f e in
    cond-false (is_place node.place row.1.place) _ _ (is_place-flip row.1.place node.place (free_apart row.1.place number node rows (differ_head row rows differ) rest))
    ∙ number_of_place number node rows (differ_tail row rows differ) rest)

-- ---- one more node

pub free-push : (place : Place) (number : ℕ) (node : Node) (rows : Nodes) → IsFree place rows → is_place place node.place ≡ false → IsFree place (rows ++ (number, node) ∷ [])
free-push place number node [] free apart = (apart, tt)
free-push place number node (row ∷ rows) free apart = (free.0, free-push place number node rows free.1 apart)

pub differ-push : (number : ℕ) (node : Node) (rows : Nodes) → DoPlacesDiffer rows → IsFree node.place rows → DoPlacesDiffer (rows ++ (number, node) ∷ [])
differ-push number node [] differ free = differ_cons (number, node) [] tt differ
differ-push number node (row ∷ rows) differ free =
    differ_cons row (rows ++ (number, node) ∷ [])
    (free-push row.1.place number node rows (differ_head row rows differ) (is_place-flip node.place row.1.place free.0))
    (differ-push number node rows (differ_tail row rows differ) free.1)

-- ---- a node that goes

pub free-removed : (place : Place) (number : ℕ) (rows : Nodes) → IsFree place rows → IsFree place (remove_entry (nat_eq number) rows)
free-removed place number [] free = tt
free-removed place number (row ∷ rows) free =
    split (nat_eq number row.0)
    (λ t. subst (IsFree place) (sym (cond-true (nat_eq number row.0) rows (row ∷ remove_entry (nat_eq number) rows) t)) free.1)
    (λ f. subst (IsFree place) (sym (cond-false (nat_eq number row.0) rows (row ∷ remove_entry (nat_eq number) rows) f)) (free.0, free-removed place number rows free.1))

pub differ-removed : (number : ℕ) (rows : Nodes) → DoPlacesDiffer rows → DoPlacesDiffer (remove_entry (nat_eq number) rows)
differ-removed number [] differ = differ
differ-removed number (row ∷ rows) differ =
    split (nat_eq number row.0)
    (λ t. subst DoPlacesDiffer (sym (cond-true (nat_eq number row.0) rows (row ∷ remove_entry (nat_eq number) rows) t)) (differ_tail row rows differ))
    (λ f. subst DoPlacesDiffer (sym (cond-false (nat_eq number row.0) rows (row ∷ remove_entry (nat_eq number) rows) f))
    (differ_cons row (remove_entry (nat_eq number) rows) (free-removed row.1.place number rows (differ_head row rows differ)) (differ-removed number rows (differ_tail row rows differ))))

-- ---- a node that moves

abbrev moved_row : Place → ℕ × Node → ℕ × Node
moved_row place row = (row.0, with_place place row.1)

pub free-moved : (place target : Place) (number : ℕ) (rows : Nodes) → IsFree place rows → is_place place target ≡ false → IsFree place (revise number (with_place target) rows)
free-moved place target number [] free apart = tt
free-moved place target number (row ∷ rows) free apart =
    split (nat_eq number row.0)
    (λ t. subst (IsFree place) (sym (cond-true (nat_eq number row.0) (moved_row target row ∷ rows) (row ∷ revise number (with_place target) rows) t)) (apart, free.1))
    (λ f. subst (IsFree place) (sym (cond-false (nat_eq number row.0) (moved_row target row ∷ rows) (row ∷ revise number (with_place target) rows) f)) (free.0, free-moved place target number rows free.1 apart))

pub differ-moved : (target : Place) (number : ℕ) (rows : Nodes) → DoPlacesDiffer rows → IsFree target rows → DoPlacesDiffer (revise number (with_place target) rows)
differ-moved target number [] differ free = differ
differ-moved target number (row ∷ rows) differ free =
    split (nat_eq number row.0)
    (λ t. subst DoPlacesDiffer (sym (cond-true (nat_eq number row.0) (moved_row target row ∷ rows) (row ∷ revise number (with_place target) rows) t))
    (differ_cons (moved_row target row) rows free.1 (differ_tail row rows differ)))
    (λ f. subst DoPlacesDiffer (sym (cond-false (nat_eq number row.0) (moved_row target row ∷ rows) (row ∷ revise number (with_place target) rows) f))
    (differ_cons row (revise number (with_place target) rows)
    (free-moved row.1.place target number rows (differ_head row rows differ) (is_place-flip target row.1.place free.0))
    (differ-moved target number rows (differ_tail row rows differ) free.1)))
