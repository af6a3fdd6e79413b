-- What a search among sorted names finds, and what a change at that place makes of the attributes.
use Rattle.std.proofs.Common.{◌≡◌, ℕ, zero, suc, ◌+◌, ◌<◌, ◌≤◌, true, false, Some, None, Result, Ok, Err, IfOk, IfErr, List, [], ◌∷◌, length, get_or, set, refl, sym, ap, ◌∙◌, subst, arith, nat_cmp, Ordering, Less, Equal, Greater, is_eq, is_lt}
use Rattle.std.specs.List.{AllByRecursion, insert, remove}
use Rattle.std.specs.List.Sorted.{IsStrictlySortedBy, IsSearchInRange, IsBinarySearchResult, IsNonDecreasingBy}
use Rattle.std.specs.Map.{keys_of}
use Rattle.std.specs.Ordering.{ordering_index, ordering_reverse, match_ordering}
use Rattle.std.specs.Str.{bytes_eq}
use Rattle.std.specs.Cmp.Lexicographic.{slice_cmp}
use Rattle.std.proofs.lemmas.Bool.{cond-true, cond-false}
use Rattle.std.proofs.lemmas.Option.{none-some}
use Rattle.std.proofs.lemmas.Cmp.{nat_list_cmp_total, tied_itself, alike_right}
use Rattle.std.proofs.lemmas.List.Sorted.{searchable_from_sorted}
use Rattle.std.proofs.lemmas.Map.Text.{is_eq-slice_cmp}
use Rattle.std.proofs.lemmas.Map.Keys.{sorted_head, sorted_tail}
use Rattle.std.proofs.lemmas.Slice.Eq.{bytes_eq-Decides}
use Rattle.file_world.proofs.RowLemmas.{split, cond_at_false}
use Rattle.file_world.specs.Attributes.{Attributes, value_at}
use Rattle.file_world.specs.AttributeEffect.{with_value, without_value}
use Rattle.attr_state.specs.Index.{AreSorted, IsMarkAt, IsGap}

abbrev pub Attribute : Type 0
Attribute = List ℕ × List ℕ

abbrev pub compare : List ℕ → List ℕ → Ordering
compare one other = slice_cmp nat_cmp one other

-- ---- two names

pub greater_back : (one other : List ℕ) → compare one other ≡ Less → compare other one ≡ Greater
greater_back one other e = nat_list_cmp_total.antisymm other one ∙ ap ordering_reverse e

pub less_back : (one other : List ℕ) → compare one other ≡ Greater → compare other one ≡ Less
less_back one other e = nat_list_cmp_total.antisymm other one ∙ ap ordering_reverse e

apart_from_less : (name other : List ℕ) → compare name other ≡ Less → bytes_eq name other ≡ false
apart_from_less name other e = sym (is_eq-slice_cmp name other) ∙ ap is_eq e

pub apart_from_greater : (name other : List ℕ) → compare other name ≡ Less → bytes_eq name other ≡ false
apart_from_greater name other e = sym (is_eq-slice_cmp name other) ∙ ap is_eq (greater_back other name e)

same_from_equal : (one other : List ℕ) → compare one other ≡ Equal → one ≡ other
same_from_equal one other e = (bytes_eq-Decides one other).0 (sym (is_eq-slice_cmp one other) ∙ ap is_eq e)

itself : (one other : List ℕ) → one ≡ other → bytes_eq other one ≡ true
itself one other e = (bytes_eq-Decides other one).1 (sym e)

-- ---- names that rise

abbrev pub AllAfter : List ℕ → Attributes → Type 0
AllAfter name attributes = AllByRecursion (λ other. compare name other ≡ Less) (keys_of attributes)

pub head_after : (attribute : Attribute) (attributes : Attributes) → AreSorted (attribute ∷ attributes) → AllAfter attribute.0 attributes
head_after attribute attributes sorted = sorted_head (slice_cmp nat_cmp) attribute.0 (keys_of attributes) sorted

pub tail_sorted : (attribute : Attribute) (attributes : Attributes) → AreSorted (attribute ∷ attributes) → AreSorted attributes
tail_sorted attribute attributes sorted = sorted_tail (slice_cmp nat_cmp) attribute.0 (keys_of attributes) sorted

cons_sorted : (attribute : Attribute) (attributes : Attributes) → AllAfter attribute.0 attributes → AreSorted attributes → AreSorted (attribute ∷ attributes)
unfolding IsStrictlySortedBy
cons_sorted attribute attributes after sorted = (after, sorted)

one_sorted : (attribute : Attribute) → AreSorted (attribute ∷ [])
unfolding IsStrictlySortedBy
one_sorted attribute = (tt, tt)

after_at : (name : List ℕ) (attributes : Attributes) (place : ℕ) (d : Attribute) → AllAfter name attributes → place < length attributes → compare name (get_or attributes place d).0 ≡ Less
after_at name [] place d after lt = absurd (omega (arith, lt))
after_at name (attribute ∷ attributes) zero d after lt = after.0
after_at name (attribute ∷ attributes) (suc place) d after lt = after_at name attributes place d after.1 (omega (arith, lt))

-- a name before all of these is not among them
none_after : (name : List ℕ) (attributes : Attributes) → AllAfter name attributes → value_at attributes name ≡ None
none_after name [] after = refl
none_after name (attribute ∷ attributes) after = cond-false (bytes_eq name attribute.0) _ _ (apart_from_less name attribute.0 after.0) ∙ none_after name attributes after.1

all_stay_after : (name : List ℕ) (attributes : Attributes) → AllAfter name attributes → without_value attributes name ≡ attributes
all_stay_after name [] after = refl
all_stay_after name (attribute ∷ attributes) after =
    cond-false (bytes_eq name attribute.0) _ _ (apart_from_less name attribute.0 after.0) ∙ ap (λ (rest : Attributes). attribute ∷ rest) (all_stay_after name attributes after.1)

-- ---- the place that a search finds

adjacent : (attributes : Attributes) (k : ℕ) (d : Attribute) → AreSorted attributes → suc k < length attributes → compare (get_or attributes k d).0 (get_or attributes (suc k) d).0 ≡ Less
adjacent [] k d sorted lt = absurd (omega (arith, lt))
adjacent (attribute ∷ attributes) zero d sorted lt = after_at attribute.0 attributes 0 d (head_after attribute attributes sorted) (omega (arith, lt))
adjacent (attribute ∷ attributes) (suc k) d sorted lt = adjacent attributes k d (tail_sorted attribute attributes sorted) (omega (arith, lt))

comparisons_rise : (attributes : Attributes) (name : List ℕ) → AreSorted attributes → IsNonDecreasingBy (λ attribute. ordering_index (compare attribute.0 name)) attributes
comparisons_rise attributes name sorted =
    searchable_from_sorted nat_list_cmp_total (λ (attribute : Attribute). attribute.0) attributes name
    (λ k d low high. let next : suc k ≡ k + 1 = omega arith in
    ap is_lt (greater_back (get_or attributes k d).0 (get_or attributes (k + 1) d).0
    (subst (λ (n : ℕ). compare (get_or attributes k d).0 (get_or attributes n d).0 ≡ Less) next (adjacent attributes k d sorted (omega (arith, high))))))

IsAt-from : (attributes : Attributes) (name : List ℕ) (place : ℕ) → AreSorted attributes → place < length attributes → ((d : Attribute) → compare (get_or attributes place d).0 name ≡ Equal) → IsMarkAt attributes name place
IsAt-from [] name place sorted lt equal = absurd (omega (arith, lt))
IsAt-from (attribute ∷ attributes) name zero sorted lt equal = same_from_equal attribute.0 name (equal attribute)
IsAt-from (attribute ∷ attributes) name (suc place) sorted lt equal =
    let within : place < length attributes = omega (arith, lt) in
    let found : List ℕ = (get_or attributes place attribute).0 in (
      sym (alike_right nat_list_cmp_total found name attribute.0 (equal attribute)) ∙ after_at attribute.0 attributes place attribute (head_after attribute attributes sorted) within,
      IsAt-from attributes name place (tail_sorted attribute attributes sorted) within equal,
    )

AllAfter-from : (attributes : Attributes) (name : List ℕ) → ((k : ℕ) (d : Attribute) → k < length attributes → compare (get_or attributes k d).0 name ≡ Greater) → AllAfter name attributes
AllAfter-from [] name greater = tt
AllAfter-from (attribute ∷ attributes) name greater =
    (less_back attribute.0 name (greater 0 attribute (omega arith)), AllAfter-from attributes name (λ k d lt. greater (suc k) d (omega (arith, lt))))

IsGap-from : (attributes : Attributes) (name : List ℕ) (place : ℕ) → place ≤ length attributes → ((k : ℕ) (d : Attribute) → k < place → compare (get_or attributes k d).0 name ≡ Less) → ((k : ℕ) (d : Attribute) → place ≤ k → k < length attributes → compare (get_or attributes k d).0 name ≡ Greater) → IsGap attributes name place
IsGap-from attributes name zero le less greater = AllAfter-from attributes name (λ k d lt. greater k d (omega arith) lt)
IsGap-from [] name (suc place) le less greater = absurd (omega (arith, le))
IsGap-from (attribute ∷ attributes) name (suc place) le less greater = (
  less 0 attribute (omega arith),
  IsGap-from attributes name place (omega (arith, le)) (λ k d lt. less (suc k) d (omega (arith, lt))) (λ k d low lt. greater (suc k) d (omega (arith, low)) (omega (arith, lt))),
)

-- what a search finds
pub record Searched (attributes : Attributes) (name : List ℕ) (result : Result ℕ ℕ) : Type 0 where
  pub found : IfOk result (IsMarkAt attributes name)
  pub absent : IfErr result (IsGap attributes name)

pub searched : (attributes : Attributes) (name : List ℕ) (result : Result ℕ ℕ) → AreSorted attributes → IsSearchInRange result (length attributes) → IsBinarySearchResult (λ attribute. compare attribute.0 name) attributes result → Searched attributes name result
searched attributes name (Ok place) sorted within equal = record { found = IsAt-from attributes name place sorted within equal; absent = tt }
searched attributes name (Err place) sorted within parted =
    let parts = parted (comparisons_rise attributes name sorted) in
    record { found = tt; absent = IsGap-from attributes name place within (λ k d lt. parts.0 k d (omega arith) lt) (λ k d low lt. parts.1 k d low lt) }

-- ---- look-ups

pub at_within : (attributes : Attributes) (name : List ℕ) (place : ℕ) → IsMarkAt attributes name place → place < length attributes
at_within [] name place at = absurd at
at_within (attribute ∷ attributes) name zero at = omega arith
at_within (attribute ∷ attributes) name (suc place) at = let rest = at_within attributes name place at.1 in omega (arith, rest)

pub gap_within : (attributes : Attributes) (name : List ℕ) (place : ℕ) → IsGap attributes name place → place ≤ length attributes
gap_within attributes name zero gap = omega arith
gap_within [] name (suc place) gap = absurd gap
gap_within (attribute ∷ attributes) name (suc place) gap = let rest = gap_within attributes name place gap.1 in omega (arith, rest)

pub value_at-found : (attributes : Attributes) (name : List ℕ) (place : ℕ) (d : Attribute) → IsMarkAt attributes name place → value_at attributes name ≡ Some (get_or attributes place d).1
value_at-found [] name place d at = absurd at
value_at-found (attribute ∷ attributes) name zero d at = cond-true (bytes_eq name attribute.0) _ _ (itself attribute.0 name at)
value_at-found (attribute ∷ attributes) name (suc place) d at = cond-false (bytes_eq name attribute.0) _ _ (apart_from_greater name attribute.0 at.0) ∙ value_at-found attributes name place d at.1

pub value_at-missing : (attributes : Attributes) (name : List ℕ) (place : ℕ) → IsGap attributes name place → value_at attributes name ≡ None
value_at-missing attributes name zero gap = none_after name attributes gap
value_at-missing [] name (suc place) gap = absurd gap
value_at-missing (attribute ∷ attributes) name (suc place) gap = cond-false (bytes_eq name attribute.0) _ _ (apart_from_greater name attribute.0 gap.0) ∙ value_at-missing attributes name place gap.1

-- ---- changes

-- where a new name goes among the attributes, by how it compares with the first of them
with_before : (attribute : Attribute) (attributes : Attributes) (name value : List ℕ) → compare name attribute.0 ≡ Less → with_value (attribute ∷ attributes) name value ≡ (name, value) ∷ attribute ∷ attributes
with_before attribute attributes name value e = ap (λ (o : Ordering). match_ordering o ((name, value) ∷ attribute ∷ attributes) ((attribute.0, value) ∷ attributes) (attribute ∷ with_value attributes name value)) e

with_here : (attribute : Attribute) (attributes : Attributes) (name value : List ℕ) → compare name attribute.0 ≡ Equal → with_value (attribute ∷ attributes) name value ≡ (attribute.0, value) ∷ attributes
with_here attribute attributes name value e = ap (λ (o : Ordering). match_ordering o ((name, value) ∷ attribute ∷ attributes) ((attribute.0, value) ∷ attributes) (attribute ∷ with_value attributes name value)) e

with_later : (attribute : Attribute) (attributes : Attributes) (name value : List ℕ) → compare name attribute.0 ≡ Greater → with_value (attribute ∷ attributes) name value ≡ attribute ∷ with_value attributes name value
with_later attribute attributes name value e = ap (λ (o : Ordering). match_ordering o ((name, value) ∷ attribute ∷ attributes) ((attribute.0, value) ∷ attributes) (attribute ∷ with_value attributes name value)) e

pub with_value-found : (attributes : Attributes) (name value : List ℕ) (place : ℕ) → IsMarkAt attributes name place → with_value attributes name value ≡ set attributes place (name, value)
with_value-found [] name value place at = absurd at
with_value-found (attribute ∷ attributes) name value zero at =
    with_here attribute attributes name value (ap (compare name) at ∙ tied_itself nat_list_cmp_total name) ∙ ap (λ (n : List ℕ). (n, value) ∷ attributes) at
with_value-found (attribute ∷ attributes) name value (suc place) at =
    with_later attribute attributes name value (greater_back attribute.0 name at.0) ∙ ap (λ (rest : Attributes). attribute ∷ rest) (with_value-found attributes name value place at.1)

pub with_value-missing : (attributes : Attributes) (name value : List ℕ) (place : ℕ) → IsGap attributes name place → with_value attributes name value ≡ insert attributes place (name, value)
with_value-missing [] name value zero gap = refl
with_value-missing (attribute ∷ attributes) name value zero gap = with_before attribute attributes name value gap.0
with_value-missing [] name value (suc place) gap = absurd gap
with_value-missing (attribute ∷ attributes) name value (suc place) gap =
    with_later attribute attributes name value (greater_back attribute.0 name gap.0) ∙ ap (λ (rest : Attributes). attribute ∷ rest) (with_value-missing attributes name value place gap.1)

pub without_value-found : (attributes : Attributes) (name : List ℕ) (place : ℕ) → IsMarkAt attributes name place → without_value attributes name ≡ remove attributes place
without_value-found [] name place at = absurd at
without_value-found (attribute ∷ attributes) name zero at = cond-true (bytes_eq name attribute.0) _ _ (itself attribute.0 name at)
without_value-found (attribute ∷ attributes) name (suc place) at =
    cond-false (bytes_eq name attribute.0) _ _ (apart_from_greater name attribute.0 at.0) ∙ ap (λ (rest : Attributes). attribute ∷ rest) (without_value-found attributes name place at.1)

pub without_value-missing : (attributes : Attributes) (name : List ℕ) (place : ℕ) → IsGap attributes name place → without_value attributes name ≡ attributes
without_value-missing attributes name zero gap = all_stay_after name attributes gap
without_value-missing [] name (suc place) gap = absurd gap
without_value-missing (attribute ∷ attributes) name (suc place) gap =
    cond-false (bytes_eq name attribute.0) _ _ (apart_from_greater name attribute.0 gap.0) ∙ ap (λ (rest : Attributes). attribute ∷ rest) (without_value-missing attributes name place gap.1)

-- ---- the names still rise

by_order : {P : Type 0} (o : Ordering) → (o ≡ Less → P) → (o ≡ Equal → P) → (o ≡ Greater → P) → P
by_order Less less equal greater = less refl
by_order Equal less equal greater = equal refl
by_order Greater less equal greater = greater refl

all_after-less : (name other : List ℕ) (attributes : Attributes) → compare name other ≡ Less → AllAfter other attributes → AllAfter name attributes
all_after-less name other [] lt after = tt
all_after-less name other (attribute ∷ attributes) lt after = (nat_list_cmp_total.trans name other attribute.0 lt after.0, all_after-less name other attributes lt after.1)

all_after-with : (bound name value : List ℕ) (attributes : Attributes) → compare bound name ≡ Less → AllAfter bound attributes → AllAfter bound (with_value attributes name value)
all_after-with bound name value [] lt after = (lt, tt)
all_after-with bound name value (attribute ∷ attributes) lt after =
    by_order (compare name attribute.0)
    (λ e. subst (AllAfter bound) (sym (with_before attribute attributes name value e)) (lt, after))
    (λ e. subst (AllAfter bound) (sym (with_here attribute attributes name value e)) after)
    (λ e. subst (AllAfter bound) (sym (with_later attribute attributes name value e)) (after.0, all_after-with bound name value attributes lt after.1))

pub AreSorted-with : (attributes : Attributes) (name value : List ℕ) → AreSorted attributes → AreSorted (with_value attributes name value)
AreSorted-with [] name value sorted = one_sorted (name, value)
AreSorted-with (attribute ∷ attributes) name value sorted =
    let after = head_after attribute attributes sorted in
    let rest = tail_sorted attribute attributes sorted in
    by_order (compare name attribute.0)
    (λ e. subst AreSorted (sym (with_before attribute attributes name value e)) (cons_sorted (name, value) (attribute ∷ attributes) (e, all_after-less name attribute.0 attributes e after) sorted))
    (λ e. subst AreSorted (sym (with_here attribute attributes name value e)) (cons_sorted (attribute.0, value) attributes after rest))
    (λ e. subst AreSorted (sym (with_later attribute attributes name value e))
    (cons_sorted attribute (with_value attributes name value) (all_after-with attribute.0 name value attributes (less_back name attribute.0 e) after) (AreSorted-with attributes name value rest)))

all_after-without : (bound name : List ℕ) (attributes : Attributes) → AllAfter bound attributes → AllAfter bound (without_value attributes name)
all_after-without bound name [] after = tt
all_after-without bound name (attribute ∷ attributes) after =
    split (bytes_eq name attribute.0)
    (λ t. subst (AllAfter bound) (sym (cond-true (bytes_eq name attribute.0) attributes (attribute ∷ without_value attributes name) t)) after.1)
    (λ f. subst (AllAfter bound) (sym (cond-false (bytes_eq name attribute.0) attributes (attribute ∷ without_value attributes name) f)) (after.0, all_after-without bound name attributes after.1))

pub AreSorted-without : (attributes : Attributes) (name : List ℕ) → AreSorted attributes → AreSorted (without_value attributes name)
AreSorted-without [] name sorted = sorted
AreSorted-without (attribute ∷ attributes) name sorted =
    split (bytes_eq name attribute.0)
    (λ t. subst AreSorted (sym (cond-true (bytes_eq name attribute.0) attributes (attribute ∷ without_value attributes name) t)) (tail_sorted attribute attributes sorted))
    (λ f. subst AreSorted (sym (cond-false (bytes_eq name attribute.0) attributes (attribute ∷ without_value attributes name) f))
    (cons_sorted attribute (without_value attributes name) (all_after-without attribute.0 name attributes (head_after attribute attributes sorted)) (AreSorted-without attributes name (tail_sorted attribute attributes sorted))))

-- ---- how many

pub length-with_found : (attributes : Attributes) (name value found : List ℕ) → AreSorted attributes → value_at attributes name ≡ Some found → length (with_value attributes name value) ≡ length attributes
length-with_found [] name value found sorted e = absurd (none-some _ e)
length-with_found (attribute ∷ attributes) name value found sorted e =
    by_order (compare name attribute.0)
    (λ o. absurd (none-some _ (sym (none_after name (attribute ∷ attributes) (o, all_after-less name attribute.0 attributes o (head_after attribute attributes sorted))) ∙ e)))
    (λ o. ap length (with_here attribute attributes name value o))
    (λ o. ap length (with_later attribute attributes name value o)
    ∙ ap suc (length-with_found attributes name value found (tail_sorted attribute attributes sorted) (cond_at_false (bytes_eq name attribute.0) _ _ _ (sym (is_eq-slice_cmp name attribute.0) ∙ ap is_eq o) e)))

pub length-with_missing : (attributes : Attributes) (name value : List ℕ) → value_at attributes name ≡ None → length (with_value attributes name value) ≡ suc (length attributes)
length-with_missing [] name value e = refl
length-with_missing (attribute ∷ attributes) name value e =
    by_order (compare name attribute.0)
    (λ o. ap length (with_before attribute attributes name value o))
    (λ o. absurd (none-some _ (sym e ∙ cond-true (bytes_eq name attribute.0) _ _ (sym (is_eq-slice_cmp name attribute.0) ∙ ap is_eq o))))
    (λ o. ap length (with_later attribute attributes name value o)
    ∙ ap suc (length-with_missing attributes name value (cond_at_false (bytes_eq name attribute.0) _ _ _ (sym (is_eq-slice_cmp name attribute.0) ∙ ap is_eq o) e)))
