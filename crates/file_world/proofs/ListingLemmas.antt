-- The names in a directory: in the byte order of the names, and each with the child that it stands for.
use Rattle.std.proofs.Common.{◌≡◌, ℕ, Bool, true, false, cond, ◌&&◌, Option, Some, None, List, [], ◌∷◌, map, refl, sym, ap, ◌∙◌, subst, ap₂, nat_cmp, is_eq, is_lt, Ordering, Less, Equal, Greater, bytes_eq}
use Rattle.std.specs.Prelude.{◌==◌}
use Rattle.std.specs.List.{AllByRecursion}
use Rattle.std.specs.List.Sorted.{IsStrictlySortedBy}
use Rattle.std.specs.Map.{lookup, keys_of}
use Rattle.std.specs.BTreeMap.{is_at}
use Rattle.std.specs.Ordering.{ordering_reverse}
use Rattle.std.specs.Cmp.Lexicographic.{slice_cmp, nat_list_cmp_total}
use Rattle.std.proofs.lemmas.Bool.{cond-true, cond-false, false≢true, true≢false, eq-eqb, ne_eqb, eqb-true, and_left}
use Rattle.std.proofs.lemmas.Map.Text.{is_eq-slice_cmp}
use Rattle.std.proofs.lemmas.Map.Lookups.{exact_bytes}
use Rattle.std.proofs.lemmas.Option.{none-some, same_Some}
use Rattle.std.proofs.lemmas.Slice.Eq.{bytes_eq-Decides}
use Rattle.file_world.specs.declared.reply.NamedNode.{NamedNode}
use Rattle.file_world.specs.Tree.{Place, Nodes, number_at, is_place}
use Rattle.file_world.specs.TreeEffect.{at, insert_name, names_in}
use Rattle.file_world.proofs.RowLemmas.{split, cond_at_true, cond_at_false}
use Rattle.file_world.proofs.PlaceLemmas.{DoPlacesDiffer, differ_head, differ_tail, none_from_IsFree}

-- a list of names as pairs
abbrev pub pair_of : NamedNode → List ℕ × ℕ
pair_of named = (named.name, named.node.0)

abbrev pub pairs_of : List NamedNode → List (List ℕ × ℕ)
pairs_of names = map pair_of names

abbrev pub order : List ℕ → List ℕ → Ordering
order = slice_cmp nat_cmp

abbrev pub Pairs : Type 0
Pairs = List (List ℕ × ℕ)

abbrev pub found_in : Pairs → List ℕ → Option ℕ
found_in pairs name = lookup (is_at (order name)) pairs

abbrev pub AreSorted : Pairs → Type 0
AreSorted pairs = IsStrictlySortedBy order (keys_of pairs)

abbrev pub AreAfter : List ℕ → Pairs → Type 0
AreAfter name pairs = AllByRecursion (λ other. order name other ≡ Less) (keys_of pairs)

sorted_head : (first : List ℕ × ℕ) (others : Pairs) → AreSorted (first ∷ others) → AreAfter first.0 others
unfolding IsStrictlySortedBy
sorted_head first others s = s.0

sorted_tail : (first : List ℕ × ℕ) (others : Pairs) → AreSorted (first ∷ others) → AreSorted others
unfolding IsStrictlySortedBy
sorted_tail first others s = s.1

sorted_cons : (first : List ℕ × ℕ) (others : Pairs) → AreAfter first.0 others → AreSorted others → AreSorted (first ∷ others)
unfolding IsStrictlySortedBy
sorted_cons first others after s = (after, s)

none_sorted : AreSorted []
unfolding IsStrictlySortedBy
none_sorted = tt

-- ---- the order of names

at_itself : (name : List ℕ) → is_at (order name) name ≡ true
at_itself name = is_eq-slice_cmp name name ∙ (bytes_eq-Decides name name).1 refl

same_name : (name other : List ℕ) → is_at (order name) other ≡ true → name ≡ other
same_name name other e = (bytes_eq-Decides name other).0 (sym (is_eq-slice_cmp name other) ∙ e)

not_at_less : (name other : List ℕ) → order name other ≡ Less → is_at (order name) other ≡ false
not_at_less name other e = ap is_eq e

flip_less : (name other : List ℕ) → order name other ≡ Less → order other name ≡ Greater
flip_less name other e = nat_list_cmp_total.antisymm other name ∙ ap ordering_reverse e

flip_greater : (name other : List ℕ) → order name other ≡ Greater → order other name ≡ Less
flip_greater name other e = nat_list_cmp_total.antisymm other name ∙ ap ordering_reverse e

none_after : (name : List ℕ) (pairs : Pairs) → AreAfter name pairs → found_in pairs name ≡ None
none_after name [] after = refl
none_after name (first ∷ others) after = cond-false (is_at (order name) first.0) _ _ (not_at_less name first.0 after.0) ∙ none_after name others after.1

after_trans : (name other : List ℕ) (pairs : Pairs) → order name other ≡ Less → AreAfter other pairs → AreAfter name pairs
after_trans name other [] less after = tt
after_trans name other (first ∷ others) less after = (nat_list_cmp_total.trans name other first.0 less after.0, after_trans name other others less after.1)

-- ---- lists in order with the same look-ups are the same

tail_same : (first : List ℕ × ℕ) (xs ys : Pairs) → AreAfter first.0 xs → AreAfter first.0 ys → ((name : List ℕ) → found_in (first ∷ xs) name ≡ found_in (first ∷ ys) name) → (name : List ℕ) → found_in xs name ≡ found_in ys name
tail_same first xs ys after later same name =
    split (is_at (order name) first.0)
    (λ t. let e = same_name name first.0 t in
    ap (found_in xs) e ∙ (none_after first.0 xs after ∙ sym (ap (found_in ys) e ∙ none_after first.0 ys later)))
    (λ f. sym (cond-false (is_at (order name) first.0) (Some first.1) (found_in xs name) f) ∙ (same name ∙ cond-false (is_at (order name) first.0) (Some first.1) (found_in ys name) f))

pub same_pairs : (xs ys : Pairs) → AreSorted xs → AreSorted ys → ((name : List ℕ) → found_in xs name ≡ found_in ys name) → xs ≡ ys
same_pairs [] [] s t same = refl
same_pairs [] (y ∷ ys) s t same = absurd (none-some _ (same y.0 ∙ cond-true (is_at (order y.0) y.0) _ _ (at_itself y.0)))
same_pairs (x ∷ xs) [] s t same = absurd (none-some _ (sym (same x.0) ∙ cond-true (is_at (order x.0) x.0) _ _ (at_itself x.0)))
same_pairs (x ∷ xs) (y ∷ ys) s t same =
    by (order x.0 y.0) refl (λ rest. same_pairs xs ys (sorted_tail x xs s) (sorted_tail y ys t) rest)
  where
    here : found_in (x ∷ xs) x.0 ≡ Some x.1
    here = cond-true (is_at (order x.0) x.0) _ _ (at_itself x.0)

    there : found_in (y ∷ ys) y.0 ≡ Some y.1
    there = cond-true (is_at (order y.0) y.0) _ _ (at_itself y.0)

    by : (o : Ordering) → order x.0 y.0 ≡ o → (((name : List ℕ) → found_in xs name ≡ found_in ys name) → xs ≡ ys) → (x ∷ xs) ≡ (y ∷ ys)
    by Less e rest = absurd (none-some _ (sym (none_after x.0 (y ∷ ys) (e, after_trans x.0 y.0 ys e (sorted_head y ys t))) ∙ (sym (same x.0) ∙ here)))
    by Greater e rest =
        let less = flip_greater x.0 y.0 e in
        absurd (none-some _ (sym (none_after y.0 (x ∷ xs) (less, after_trans y.0 x.0 xs less (sorted_head x xs s))) ∙ (same y.0 ∙ there)))
    by Equal e rest =
        let names : x.0 ≡ y.0 = exact_bytes x.0 y.0 e in
        let values : x.1 ≡ y.1 = same_Some _ _ (sym here ∙ (same x.0 ∙ (ap (found_in (y ∷ ys)) names ∙ there))) in
        let first : x ≡ y = ap₂ (λ (a : List ℕ) (b : ℕ). (a, b)) names values in
        let tails = rest (tail_same y xs ys (subst (λ (n : List ℕ). AreAfter n xs) names (sorted_head x xs s)) (sorted_head y ys t)
        (subst (λ (z : List ℕ × ℕ). (name : List ℕ) → found_in (z ∷ xs) name ≡ found_in (y ∷ ys) name) first same)) in
        ap₂ (λ (a : List ℕ × ℕ) (b : Pairs). a ∷ b) first tails

-- ---- a name that is entered

entered_after : (name : List ℕ) (new : NamedNode) (names : List NamedNode) → order name new.name ≡ Less → AreAfter name (pairs_of names) → AreAfter name (pairs_of (insert_name new names))
entered_after name new [] less after = (less, tt)
entered_after name new (first ∷ others) less after =
    split (is_lt (order new.name first.name))
    (λ t. subst (λ (n : List NamedNode). AreAfter name (pairs_of n)) (sym (cond-true (is_lt (order new.name first.name)) (new ∷ first ∷ others) (first ∷ insert_name new others) t)) (less, after))
    (λ f. subst (λ (n : List NamedNode). AreAfter name (pairs_of n)) (sym (cond-false (is_lt (order new.name first.name)) (new ∷ first ∷ others) (first ∷ insert_name new others) f)) (after.0, entered_after name new others less after.1))

less_from : (o : Ordering) → is_lt o ≡ true → o ≡ Less
less_from Less e = refl
less_from Equal e = absurd (false≢true e)
less_from Greater e = absurd (false≢true e)

greater_from : (o : Ordering) → is_lt o ≡ false → is_eq o ≡ false → o ≡ Greater
greater_from Less e f = absurd (true≢false e)
greater_from Equal e f = absurd (true≢false f)
greater_from Greater e f = refl

-- where a name is not found it differs from the first
differs : (name : List ℕ) (first : List ℕ × ℕ) (others : Pairs) → found_in (first ∷ others) name ≡ None → is_at (order name) first.0 ≡ false
differs name first others e =
    split (is_at (order name) first.0)
    (λ t. absurd (none-some _ (sym (cond_at_true (is_at (order name) first.0) _ _ _ t e))))
    (λ f. f)

entered_sorted : (new : NamedNode) (names : List NamedNode) → AreSorted (pairs_of names) → found_in (pairs_of names) new.name ≡ None → AreSorted (pairs_of (insert_name new names))
entered_sorted new [] s none = sorted_cons (pair_of new) [] tt s
entered_sorted new (first ∷ others) s none =
    split (is_lt (order new.name first.name))
    (λ t. let less = less_from (order new.name first.name) t in
    subst (λ (n : List NamedNode). AreSorted (pairs_of n)) (sym (cond-true (is_lt (order new.name first.name)) (new ∷ first ∷ others) (first ∷ insert_name new others) t))
    (sorted_cons (pair_of new) (pairs_of (first ∷ others)) (less, after_trans new.name first.name (pairs_of others) less (sorted_head (pair_of first) (pairs_of others) s)) s))
    (λ f. let d = differs new.name (pair_of first) (pairs_of others) none in
    let less = flip_greater new.name first.name (greater_from (order new.name first.name) f d) in
    subst (λ (n : List NamedNode). AreSorted (pairs_of n)) (sym (cond-false (is_lt (order new.name first.name)) (new ∷ first ∷ others) (first ∷ insert_name new others) f))
    (sorted_cons (pair_of first) (pairs_of (insert_name new others))
    (entered_after first.name new others less (sorted_head (pair_of first) (pairs_of others) s))
    (entered_sorted new others (sorted_tail (pair_of first) (pairs_of others) s) (cond_at_false (is_at (order new.name) first.name) _ _ _ d none))))

-- two tests of which at most one holds can change places
swap_tests : {A : Type 0} (a b : Bool) (x y z : A) → (a ≡ true → b ≡ true → ⊥) → cond a x (cond b y z) ≡ cond b y (cond a x z)
swap_tests true true x y z apart = absurd (apart refl refl)
swap_tests true false x y z apart = refl
swap_tests false b x y z apart = refl

entered_found : (new : NamedNode) (names : List NamedNode) → found_in (pairs_of names) new.name ≡ None → (name : List ℕ) → found_in (pairs_of (insert_name new names)) name ≡ cond (is_at (order name) new.name) (Some new.node.0) (found_in (pairs_of names) name)
entered_found new [] none name = refl
entered_found new (first ∷ others) none name =
    split (is_lt (order new.name first.name))
    (λ t. ap (λ (n : List NamedNode). found_in (pairs_of n) name) (cond-true (is_lt (order new.name first.name)) (new ∷ first ∷ others) (first ∷ insert_name new others) t))
    (λ f. let d = differs new.name (pair_of first) (pairs_of others) none in
    ap (λ (n : List NamedNode). found_in (pairs_of n) name) (cond-false (is_lt (order new.name first.name)) (new ∷ first ∷ others) (first ∷ insert_name new others) f)
    ∙ (ap (λ (o : Option ℕ). cond (is_at (order name) first.name) (Some first.node.0) o) (entered_found new others (cond_at_false (is_at (order new.name) first.name) _ _ _ d none) name)
    ∙ swap_tests (is_at (order name) first.name) (is_at (order name) new.name) (Some first.node.0) (Some new.node.0) (found_in (pairs_of others) name)
    (λ a b. true≢false (sym (ap (λ (n : List ℕ). is_at (order n) first.name) (sym (same_name name new.name b)) ∙ a) ∙ d))))

-- ---- the names in a directory

name_test : (directory : ℕ) (name : List ℕ) (place : Place) → (place.directory == directory) ≡ true → is_place (at directory name) place ≡ is_at (order name) place.name
name_test directory name place e =
    ap (λ (b : Bool). b && bytes_eq name place.name) (eq-eqb directory place.directory (sym (eqb-true place.directory directory e)))
    ∙ sym (is_eq-slice_cmp name place.name)

other_test : (directory : ℕ) (name : List ℕ) (place : Place) → (place.directory == directory) ≡ false → is_place (at directory name) place ≡ false
other_test directory name place e = and_left (directory == place.directory) (bytes_eq name place.name) (flip_eq directory place.directory e)
  where
    flip_eq : (a b : ℕ) → (b == a) ≡ false → (a == b) ≡ false
    flip_eq a b h = ne_eqb a b (λ s. true≢false (sym (eq-eqb b a (sym s)) ∙ h))

pub names_found : (rows : Nodes) (directory : ℕ) → DoPlacesDiffer rows → (name : List ℕ) → found_in (pairs_of (names_in rows directory)) name ≡ number_at rows (at directory name)
names_found [] directory differ name = refl
names_found (row ∷ rows) directory differ name =
    split (row.1.place.directory == directory)
    (λ t. let new : NamedNode = record { name = row.1.place.name; node = record { 0 = row.0 } } in
    let free : number_at rows (at directory row.1.place.name) ≡ None = ap (λ (d : ℕ). number_at rows (at d row.1.place.name)) (sym (eqb-true row.1.place.directory directory t)) ∙ none_from_IsFree row.1.place rows (differ_head row rows differ) in
    let none : found_in (pairs_of (names_in rows directory)) row.1.place.name ≡ None = names_found rows directory (differ_tail row rows differ) row.1.place.name ∙ free in
    ap (λ (n : List NamedNode). found_in (pairs_of n) name) (cond-true (row.1.place.directory == directory) (insert_name new (names_in rows directory)) (names_in rows directory) t)
    ∙ (entered_found new (names_in rows directory) none name
    ∙ (ap (λ (o : Option ℕ). cond (is_at (order name) row.1.place.name) (Some row.0) o) (names_found rows directory (differ_tail row rows differ) name)
    ∙ ap (λ (b : Bool). cond b (Some row.0) (number_at rows (at directory name))) (sym (name_test directory name row.1.place t)))))
    (λ f. ap (λ (n : List NamedNode). found_in (pairs_of n) name) (cond-false (row.1.place.directory == directory) (insert_name (record { name = row.1.place.name; node = record { 0 = row.0 } }) (names_in rows directory)) (names_in rows directory) f)
    ∙ (names_found rows directory (differ_tail row rows differ) name
    ∙ sym (cond-false (is_place (at directory name) row.1.place) (Some row.0) (number_at rows (at directory name)) (other_test directory name row.1.place f))))

pub names_sorted : (rows : Nodes) (directory : ℕ) → DoPlacesDiffer rows → AreSorted (pairs_of (names_in rows directory))
names_sorted [] directory differ = none_sorted
names_sorted (row ∷ rows) directory differ =
    split (row.1.place.directory == directory)
    (λ t. let new : NamedNode = record { name = row.1.place.name; node = record { 0 = row.0 } } in
    let free : number_at rows (at directory row.1.place.name) ≡ None = ap (λ (d : ℕ). number_at rows (at d row.1.place.name)) (sym (eqb-true row.1.place.directory directory t)) ∙ none_from_IsFree row.1.place rows (differ_head row rows differ) in
    subst (λ (n : List NamedNode). AreSorted (pairs_of n)) (sym (cond-true (row.1.place.directory == directory) (insert_name new (names_in rows directory)) (names_in rows directory) t))
    (entered_sorted new (names_in rows directory) (names_sorted rows directory (differ_tail row rows differ)) (names_found rows directory (differ_tail row rows differ) row.1.place.name ∙ free)))
    (λ f. subst (λ (n : List NamedNode). AreSorted (pairs_of n)) (sym (cond-false (row.1.place.directory == directory) (insert_name (record { name = row.1.place.name; node = record { 0 = row.0 } }) (names_in rows directory)) (names_in rows directory) f))
    (names_sorted rows directory (differ_tail row rows differ)))

-- pairs as a list of names again
pub names_again : (names : List NamedNode) → map (λ (pair : List ℕ × ℕ). record { name = pair.0; node = record { 0 = pair.1 } }) (pairs_of names) ≡ names
names_again [] = refl
names_again (first ∷ others) = ap (λ (rest : List NamedNode). first ∷ rest) (names_again others)
