-- What a search among rising numbers finds, and what a change at that place makes of the fids.
use Rattle.std.proofs.Common.{◌≡◌, ◌≢◌, ℕ, cond, Option, is_some, zero, suc, ◌+◌, ◌<◌, ◌≤◌, true, false, Some, None, Result, Ok, Err, IfOk, IfErr, [], ◌∷◌, length, get_or, set, refl, sym, ap, ◌∙◌, subst, arith, nat_cmp, nat_eq, Ordering, Less, Equal, Greater, is_lt, inl, inr}
use Rattle.std.specs.List.{insert, remove}
use Rattle.std.specs.List.Sorted.{IsStrictlySortedBy, IsSearchInRange, IsBinarySearchResult, IsNonDecreasingBy}
use Rattle.std.specs.Ordering.{ordering_index, ordering_reverse, match_ordering}
use Rattle.std.proofs.lemmas.Bool.{cond-true, cond-false, eq-eqb, ne_eqb, false≢true}
use Rattle.std.proofs.lemmas.Option.{none-some}
use Rattle.std.proofs.lemmas.Cmp.{nat_cmp_total, tied_itself, alike_right, ranked}
use Rattle.std.proofs.lemmas.List.Sorted.{searchable_from_sorted}
use Rattle.file_world.proofs.RowLemmas.{cond_at_false, lt_from_less, AreAbove, rising_head, rising_tail, rising_cons, none_below, rising-removed, length-removed_le}
use Rattle.nine_fids.specs.declared.fid.Fid.{Fid}
use Rattle.nine_fids.specs.Fids.{FidList, fid_in, with_entry, without_entry, AreFids, HasRoomFor}
use Rattle.nine_fids.specs.Index.{AreRising, IsFidAt, IsGap}

abbrev pub Entry : Type 0
Entry = ℕ × Fid

-- ---- two numbers

greater_back : (one other : ℕ) → nat_cmp one other ≡ Less → nat_cmp other one ≡ Greater
greater_back one other e = nat_cmp_total.antisymm other one ∙ ap ordering_reverse e

less_back : (one other : ℕ) → nat_cmp one other ≡ Greater → nat_cmp other one ≡ Less
less_back one other e = nat_cmp_total.antisymm other one ∙ ap ordering_reverse e

apart_from_less : (number other : ℕ) → nat_cmp number other ≡ Less → nat_eq number other ≡ false
apart_from_less number other e = let lt : number < other = lt_from_less number other e in ne_eqb number other (λ h. omega (arith, h, lt))

apart_from_greater : (number other : ℕ) → nat_cmp other number ≡ Less → nat_eq number other ≡ false
apart_from_greater number other e = let lt : other < number = lt_from_less other number e in ne_eqb number other (λ h. omega (arith, h, lt))

same_from_equal : (one other : ℕ) → nat_cmp one other ≡ Equal → one ≡ other
same_from_equal one other e = ranked one other Equal (sym e)

itself : (one other : ℕ) → one ≡ other → nat_eq other one ≡ true
itself one other e = eq-eqb other one (sym e)

-- ---- numbers that rise

after_at : (number : ℕ) (fids : FidList) (place : ℕ) (d : Entry) → AreAbove number fids → place < length fids → nat_cmp number (get_or fids place d).0 ≡ Less
after_at number [] place d after lt = absurd (omega (arith, lt))
after_at number (entry ∷ fids) zero d after lt = after.0
after_at number (entry ∷ fids) (suc place) d after lt = after_at number fids place d after.1 (omega (arith, lt))

all_stay_after : (number : ℕ) (fids : FidList) → AreAbove number fids → without_entry fids number ≡ fids
all_stay_after number [] after = refl
all_stay_after number (entry ∷ fids) after =
    cond-false (nat_eq number entry.0) _ _ (apart_from_less number entry.0 after.0) ∙ ap (λ (rest : FidList). entry ∷ rest) (all_stay_after number fids after.1)

-- ---- the place that a search finds

adjacent : (fids : FidList) (k : ℕ) (d : Entry) → AreRising fids → suc k < length fids → nat_cmp (get_or fids k d).0 (get_or fids (suc k) d).0 ≡ Less
adjacent [] k d rising lt = absurd (omega (arith, lt))
adjacent (entry ∷ fids) zero d rising lt = after_at entry.0 fids 0 d (rising_head entry fids rising) (omega (arith, lt))
adjacent (entry ∷ fids) (suc k) d rising lt = adjacent fids k d (rising_tail entry fids rising) (omega (arith, lt))

comparisons_rise : (fids : FidList) (number : ℕ) → AreRising fids → IsNonDecreasingBy (λ entry. ordering_index (nat_cmp entry.0 number)) fids
comparisons_rise fids number rising =
    searchable_from_sorted nat_cmp_total (λ (entry : Entry). entry.0) fids number
    (λ k d low high. let next : suc k ≡ k + 1 = omega arith in
    ap is_lt (greater_back (get_or fids k d).0 (get_or fids (k + 1) d).0
    (subst (λ (n : ℕ). nat_cmp (get_or fids k d).0 (get_or fids n d).0 ≡ Less) next (adjacent fids k d rising (omega (arith, high))))))

IsFidAt-from : (fids : FidList) (number place : ℕ) → AreRising fids → place < length fids → ((d : Entry) → nat_cmp (get_or fids place d).0 number ≡ Equal) → IsFidAt fids number place
IsFidAt-from [] number place rising lt equal = absurd (omega (arith, lt))
IsFidAt-from (entry ∷ fids) number zero rising lt equal = same_from_equal entry.0 number (equal entry)
IsFidAt-from (entry ∷ fids) number (suc place) rising lt equal =
    let within : place < length fids = omega (arith, lt) in
    let found : ℕ = (get_or fids place entry).0 in (
      sym (alike_right nat_cmp_total found number entry.0 (equal entry)) ∙ after_at entry.0 fids place entry (rising_head entry fids rising) within,
      IsFidAt-from fids number place (rising_tail entry fids rising) within equal,
    )

AreAbove-from : (fids : FidList) (number : ℕ) → ((k : ℕ) (d : Entry) → k < length fids → nat_cmp (get_or fids k d).0 number ≡ Greater) → AreAbove number fids
AreAbove-from [] number greater = tt
AreAbove-from (entry ∷ fids) number greater =
    (less_back entry.0 number (greater 0 entry (omega arith)), AreAbove-from fids number (λ k d lt. greater (suc k) d (omega (arith, lt))))

IsGap-from : (fids : FidList) (number place : ℕ) → place ≤ length fids → ((k : ℕ) (d : Entry) → k < place → nat_cmp (get_or fids k d).0 number ≡ Less) → ((k : ℕ) (d : Entry) → place ≤ k → k < length fids → nat_cmp (get_or fids k d).0 number ≡ Greater) → IsGap fids number place
IsGap-from fids number zero le less greater = AreAbove-from fids number (λ k d lt. greater k d (omega arith) lt)
IsGap-from [] number (suc place) le less greater = absurd (omega (arith, le))
IsGap-from (entry ∷ fids) number (suc place) le less greater = (
  less 0 entry (omega arith),
  IsGap-from fids number place (omega (arith, le)) (λ k d lt. less (suc k) d (omega (arith, lt))) (λ k d low lt. greater (suc k) d (omega (arith, low)) (omega (arith, lt))),
)

-- what a search finds
pub record Searched (fids : FidList) (number : ℕ) (result : Result ℕ ℕ) : Type 0 where
  pub found : IfOk result (IsFidAt fids number)
  pub absent : IfErr result (IsGap fids number)

pub searched : (fids : FidList) (number : ℕ) (result : Result ℕ ℕ) → AreRising fids → IsSearchInRange result (length fids) → IsBinarySearchResult (λ entry. nat_cmp entry.0 number) fids result → Searched fids number result
searched fids number (Ok place) rising within equal = record { found = IsFidAt-from fids number place rising within equal; absent = tt }
searched fids number (Err place) rising within parted =
    let parts = parted (comparisons_rise fids number rising) in
    record { found = tt; absent = IsGap-from fids number place within (λ k d lt. parts.0 k d (omega arith) lt) (λ k d low lt. parts.1 k d low lt) }

-- ---- look-ups

pub at_within : (fids : FidList) (number place : ℕ) → IsFidAt fids number place → place < length fids
at_within [] number place at = absurd at
at_within (entry ∷ fids) number zero at = omega arith
at_within (entry ∷ fids) number (suc place) at = let rest = at_within fids number place at.1 in omega (arith, rest)

pub gap_within : (fids : FidList) (number place : ℕ) → IsGap fids number place → place ≤ length fids
gap_within fids number zero gap = omega arith
gap_within [] number (suc place) gap = absurd gap
gap_within (entry ∷ fids) number (suc place) gap = let rest = gap_within fids number place gap.1 in omega (arith, rest)

pub fid_in-found : (fids : FidList) (number place : ℕ) (d : Entry) → IsFidAt fids number place → fid_in fids number ≡ Some (get_or fids place d).1
fid_in-found [] number place d at = absurd at
fid_in-found (entry ∷ fids) number zero d at = cond-true (nat_eq number entry.0) _ _ (itself entry.0 number at)
fid_in-found (entry ∷ fids) number (suc place) d at = cond-false (nat_eq number entry.0) _ _ (apart_from_greater number entry.0 at.0) ∙ fid_in-found fids number place d at.1

pub fid_in-missing : (fids : FidList) (number place : ℕ) → IsGap fids number place → fid_in fids number ≡ None
fid_in-missing fids number zero gap = none_below number fids gap
fid_in-missing [] number (suc place) gap = absurd gap
fid_in-missing (entry ∷ fids) number (suc place) gap = cond-false (nat_eq number entry.0) _ _ (apart_from_greater number entry.0 gap.0) ∙ fid_in-missing fids number place gap.1

-- ---- changes

-- where a new number goes among the fids, by how it compares with the first of them
with_before : (entry : Entry) (fids : FidList) (number : ℕ) (fid : Fid) → nat_cmp number entry.0 ≡ Less → with_entry (entry ∷ fids) number fid ≡ (number, fid) ∷ entry ∷ fids
with_before entry fids number fid e = ap (λ (o : Ordering). match_ordering o ((number, fid) ∷ entry ∷ fids) ((entry.0, fid) ∷ fids) (entry ∷ with_entry fids number fid)) e

with_here : (entry : Entry) (fids : FidList) (number : ℕ) (fid : Fid) → nat_cmp number entry.0 ≡ Equal → with_entry (entry ∷ fids) number fid ≡ (entry.0, fid) ∷ fids
with_here entry fids number fid e = ap (λ (o : Ordering). match_ordering o ((number, fid) ∷ entry ∷ fids) ((entry.0, fid) ∷ fids) (entry ∷ with_entry fids number fid)) e

with_later : (entry : Entry) (fids : FidList) (number : ℕ) (fid : Fid) → nat_cmp number entry.0 ≡ Greater → with_entry (entry ∷ fids) number fid ≡ entry ∷ with_entry fids number fid
with_later entry fids number fid e = ap (λ (o : Ordering). match_ordering o ((number, fid) ∷ entry ∷ fids) ((entry.0, fid) ∷ fids) (entry ∷ with_entry fids number fid)) e

pub with_entry-found : (fids : FidList) (number : ℕ) (fid : Fid) (place : ℕ) → IsFidAt fids number place → with_entry fids number fid ≡ set fids place (number, fid)
with_entry-found [] number fid place at = absurd at
with_entry-found (entry ∷ fids) number fid zero at =
    with_here entry fids number fid (ap (nat_cmp number) at ∙ tied_itself nat_cmp_total number) ∙ ap (λ (n : ℕ). (n, fid) ∷ fids) at
with_entry-found (entry ∷ fids) number fid (suc place) at =
    with_later entry fids number fid (greater_back entry.0 number at.0) ∙ ap (λ (rest : FidList). entry ∷ rest) (with_entry-found fids number fid place at.1)

pub with_entry-missing : (fids : FidList) (number : ℕ) (fid : Fid) (place : ℕ) → IsGap fids number place → with_entry fids number fid ≡ insert fids place (number, fid)
with_entry-missing [] number fid zero gap = refl
with_entry-missing (entry ∷ fids) number fid zero gap = with_before entry fids number fid gap.0
with_entry-missing [] number fid (suc place) gap = absurd gap
with_entry-missing (entry ∷ fids) number fid (suc place) gap =
    with_later entry fids number fid (greater_back entry.0 number gap.0) ∙ ap (λ (rest : FidList). entry ∷ rest) (with_entry-missing fids number fid place gap.1)

pub without_entry-found : (fids : FidList) (number place : ℕ) → IsFidAt fids number place → without_entry fids number ≡ remove fids place
without_entry-found [] number place at = absurd at
without_entry-found (entry ∷ fids) number zero at = cond-true (nat_eq number entry.0) _ _ (itself entry.0 number at)
without_entry-found (entry ∷ fids) number (suc place) at =
    cond-false (nat_eq number entry.0) _ _ (apart_from_greater number entry.0 at.0) ∙ ap (λ (rest : FidList). entry ∷ rest) (without_entry-found fids number place at.1)

pub without_entry-missing : (fids : FidList) (number place : ℕ) → IsGap fids number place → without_entry fids number ≡ fids
without_entry-missing fids number zero gap = all_stay_after number fids gap
without_entry-missing [] number (suc place) gap = absurd gap
without_entry-missing (entry ∷ fids) number (suc place) gap =
    cond-false (nat_eq number entry.0) _ _ (apart_from_greater number entry.0 gap.0) ∙ ap (λ (rest : FidList). entry ∷ rest) (without_entry-missing fids number place gap.1)

-- ---- the numbers still rise

by_order : {P : Type 0} (o : Ordering) → (o ≡ Less → P) → (o ≡ Equal → P) → (o ≡ Greater → P) → P
by_order Less less equal greater = less refl
by_order Equal less equal greater = equal refl
by_order Greater less equal greater = greater refl

all_above-less : (number other : ℕ) (fids : FidList) → nat_cmp number other ≡ Less → AreAbove other fids → AreAbove number fids
all_above-less number other [] lt after = tt
all_above-less number other (entry ∷ fids) lt after = (nat_cmp_total.trans number other entry.0 lt after.0, all_above-less number other fids lt after.1)

all_above-with : (bound number : ℕ) (fid : Fid) (fids : FidList) → nat_cmp bound number ≡ Less → AreAbove bound fids → AreAbove bound (with_entry fids number fid)
all_above-with bound number fid [] lt after = (lt, tt)
all_above-with bound number fid (entry ∷ fids) lt after =
    by_order (nat_cmp number entry.0)
    (λ e. subst (AreAbove bound) (sym (with_before entry fids number fid e)) (lt, after))
    (λ e. subst (AreAbove bound) (sym (with_here entry fids number fid e)) after)
    (λ e. subst (AreAbove bound) (sym (with_later entry fids number fid e)) (after.0, all_above-with bound number fid fids lt after.1))

pub AreRising-with : (fids : FidList) (number : ℕ) (fid : Fid) → AreRising fids → AreRising (with_entry fids number fid)
AreRising-with [] number fid rising = rising_cons (number, fid) [] tt rising
AreRising-with (entry ∷ fids) number fid rising =
    let after = rising_head entry fids rising in
    let rest = rising_tail entry fids rising in
    by_order (nat_cmp number entry.0)
    (λ e. subst AreRising (sym (with_before entry fids number fid e)) (rising_cons (number, fid) (entry ∷ fids) (e, all_above-less number entry.0 fids e after) rising))
    (λ e. subst AreRising (sym (with_here entry fids number fid e)) (rising_cons (entry.0, fid) fids after rest))
    (λ e. subst AreRising (sym (with_later entry fids number fid e))
    (rising_cons entry (with_entry fids number fid) (all_above-with entry.0 number fid fids (less_back number entry.0 e) after) (AreRising-with fids number fid rest)))

-- ---- how many

at_equal : (number other : ℕ) → nat_cmp number other ≡ Equal → nat_eq number other ≡ true
at_equal number other e = eq-eqb number other (same_from_equal number other e)

at_greater : (number other : ℕ) → nat_cmp number other ≡ Greater → nat_eq number other ≡ false
at_greater number other e = apart_from_greater number other (less_back number other e)

pub length-with_found : (fids : FidList) (number : ℕ) (fid found : Fid) → AreRising fids → fid_in fids number ≡ Some found → length (with_entry fids number fid) ≡ length fids
length-with_found [] number fid found rising e = absurd (none-some _ e)
length-with_found (entry ∷ fids) number fid found rising e =
    by_order (nat_cmp number entry.0)
    (λ o. absurd (none-some _ (sym (none_below number (entry ∷ fids) (o, all_above-less number entry.0 fids o (rising_head entry fids rising))) ∙ e)))
    (λ o. ap length (with_here entry fids number fid o))
    (λ o. ap length (with_later entry fids number fid o)
    ∙ ap suc (length-with_found fids number fid found (rising_tail entry fids rising) (cond_at_false (nat_eq number entry.0) _ _ _ (at_greater number entry.0 o) e)))

pub length-with_missing : (fids : FidList) (number : ℕ) (fid : Fid) → fid_in fids number ≡ None → length (with_entry fids number fid) ≡ suc (length fids)
length-with_missing [] number fid e = refl
length-with_missing (entry ∷ fids) number fid e =
    by_order (nat_cmp number entry.0)
    (λ o. ap length (with_before entry fids number fid o))
    (λ o. absurd (none-some _ (sym e ∙ cond-true (nat_eq number entry.0) _ _ (at_equal number entry.0 o))))
    (λ o. ap length (with_later entry fids number fid o)
    ∙ ap suc (length-with_missing fids number fid (cond_at_false (nat_eq number entry.0) _ _ _ (at_greater number entry.0 o) e)))

-- ---- what is kept

-- the number is there, or it is not
by_found : {P : Type 0} (found : Option Fid) → (found ≡ None → P) → ((fid : Fid) → found ≡ Some fid → P) → P
by_found None none some = none refl
by_found (Some fid) none some = some fid refl

pub fits_with : (fids : FidList) (number : ℕ) (fid : Fid) → AreFids fids → HasRoomFor fids number → length (with_entry fids number fid) ≤ 1024
fits_with fids number fid kept room =
    by_found (fid_in fids number)
    (λ none. let more = length-with_missing fids number fid none in
    let few : length fids < 1024 = few_if_none fids number none room in
    omega (arith, more, few))
    (λ found is. let same = length-with_found fids number fid found kept.rising is in omega (arith, same, kept.few))
  where
    few_if_none : (fids : FidList) (number : ℕ) → fid_in fids number ≡ None → HasRoomFor fids number → length fids < 1024
    few_if_none fids number none (inl there) = absurd (false≢true (sym (ap is_some none) ∙ there))
    few_if_none fids number none (inr few) = few

pub AreFids-with : (fids : FidList) (number : ℕ) (fid : Fid) → AreFids fids → HasRoomFor fids number → AreFids (with_entry fids number fid)
AreFids-with fids number fid kept room = record { rising = AreRising-with fids number fid kept.rising; few = fits_with fids number fid kept room }

-- ---- look-ups after a change

pub fid_in-with_same : (fids : FidList) (number : ℕ) (fid : Fid) → fid_in (with_entry fids number fid) number ≡ Some fid
fid_in-with_same [] number fid = cond-true (nat_eq number number) _ _ (eq-eqb number number refl)
fid_in-with_same (entry ∷ fids) number fid =
    by_order (nat_cmp number entry.0)
    (λ o. ap (λ (f : FidList). fid_in f number) (with_before entry fids number fid o) ∙ cond-true (nat_eq number number) _ _ (eq-eqb number number refl))
    (λ o. ap (λ (f : FidList). fid_in f number) (with_here entry fids number fid o) ∙ cond-true (nat_eq number entry.0) _ _ (at_equal number entry.0 o))
    (λ o. ap (λ (f : FidList). fid_in f number) (with_later entry fids number fid o) ∙ (cond-false (nat_eq number entry.0) _ _ (at_greater number entry.0 o) ∙ fid_in-with_same fids number fid))

pub fid_in-with_other : (fids : FidList) (number other : ℕ) (fid : Fid) → other ≢ number → fid_in (with_entry fids number fid) other ≡ fid_in fids other
fid_in-with_other [] number other fid apart = cond-false (nat_eq other number) _ _ (ne_eqb other number apart)
fid_in-with_other (entry ∷ fids) number other fid apart =
    by_order (nat_cmp number entry.0)
    (λ o. ap (λ (f : FidList). fid_in f other) (with_before entry fids number fid o) ∙ cond-false (nat_eq other number) _ _ (ne_eqb other number apart))
    (λ o. let same : number ≡ entry.0 = same_from_equal number entry.0 o in
    let no : nat_eq other entry.0 ≡ false = ne_eqb other entry.0 (λ h. apart (h ∙ sym same)) in
    ap (λ (f : FidList). fid_in f other) (with_here entry fids number fid o) ∙ (cond-false (nat_eq other entry.0) _ _ no ∙ sym (cond-false (nat_eq other entry.0) _ _ no)))
    (λ o. ap (λ (f : FidList). fid_in f other) (with_later entry fids number fid o) ∙ ap (λ (rest : Option Fid). cond (nat_eq other entry.0) (Some entry.1) rest) (fid_in-with_other fids number other fid apart))

-- ---- no fids

pub AreFids-none : AreFids []
unfolding IsStrictlySortedBy
AreFids-none = record { rising = tt; few = omega arith }

pub AreFids-without : (fids : FidList) (number : ℕ) → AreFids fids → AreFids (without_entry fids number)
AreFids-without fids number kept =
    let fewer = length-removed_le number fids in
    record { rising = rising-removed number fids kept.rising; few = omega (arith, fewer, kept.few) }
