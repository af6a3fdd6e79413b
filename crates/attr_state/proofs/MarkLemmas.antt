-- The marks that are kept, seen as those of the nodes, and what stays of their order.
use Rattle.std.proofs.Common.{◌≡◌, ◌≢◌, ℕ, ◌<◌, ◌≤◌, Bool, true, false, cond, Option, Some, None, option_map, IsSome, List, [], ◌∷◌, refl, sym, ap, ◌∙◌, subst, arith, nat_eq, nat_lt, nat_cmp, is_eq, Ordering, Less, Equal, Greater, MutBor, vec_capacity}
use Rattle.std.specs.Map.{lookup, remove_entry, set_value, keys_of}
use Rattle.std.specs.BTreeMap.{BTreeMap, is_at, insert_entry, WritesThrough}
use Rattle.std.specs.Option.{option_copied_mut}
use Rattle.std.specs.Ordering.{match_ordering}
use Rattle.std.specs.List.Sorted.{IsStrictlySortedBy}
use Rattle.std.proofs.lemmas.Bool.{cond-true, cond-false, ltb-true, ltb-false, le-ltb, eq-eqb, ne_eqb, eqb-true, eqb-false}
use Rattle.std.proofs.lemmas.Option.{none-some, same_Some}
use Rattle.file_world.specs.Attributes.{Mark, Marks, mark_at}
use Rattle.file_world.specs.TreeEffect.{revise}
use Rattle.file_world.specs.AttributeEffect.{new_mark}
use Rattle.file_world.proofs.RowLemmas.{split, cond_at_true, cond_at_false, rising_head, rising_tail, none_below, less_from_lt, lt_from_less, above_found, AreAbove}
use Rattle.attr_state.specs.declared.mark.KeptMark.{KeptMark as Kept}
use Rattle.attr_state.specs.declared.ready.MetaReady.TheVariants.{Made}
use Rattle.attr_state.specs.Index.{MarkEntries, shown, marks_of, kept_at, AreSorted, AreOrdered, HasMarkRoom, IsMarkMade, IsMarkIndex, Revises, MetaStays, PreparesMeta}

-- ---- tests of numbers

same_test : (number other : ℕ) → is_at (nat_cmp number) other ≡ nat_eq number other
same_test number other =
    split (nat_lt number other)
    (λ t. ap is_eq (cond-true (nat_lt number other) Less (cond (nat_eq number other) Equal Greater) t)
    ∙ sym (ne_eqb number other (λ h. let lt : number < other = ltb-true number other t in omega (arith, h, lt))))
    (λ f. ap is_eq (cond-false (nat_lt number other) Less (cond (nat_eq number other) Equal Greater) f)
    ∙ split (nat_eq number other)
    (λ s. ap is_eq (cond-true (nat_eq number other) Equal Greater s) ∙ sym s)
    (λ s. ap is_eq (cond-false (nat_eq number other) Equal Greater s) ∙ sym s))

-- the two tests are one
pub same_tests : (number : ℕ) → ◌≡◌ {A = ℕ → Bool} (is_at (nat_cmp number)) (nat_eq number)
same_tests number = λ i other. same_test number other i

pub itself : (number : ℕ) → is_at (nat_cmp number) number ≡ true
itself number = same_test number number ∙ eq-eqb number number refl

pub apart : (number other : ℕ) → other ≢ number → is_at (nat_cmp number) other ≡ false
apart number other differ = same_test number other ∙ ne_eqb number other (λ h. differ (sym h))

pub kept_by_number : (entries : MarkEntries) (number : ℕ) → kept_at entries number ≡ lookup (nat_eq number) entries
kept_by_number entries number = ap (λ (test : ℕ → Bool). lookup test entries) (same_tests number)

pub removed_by_number : (entries : MarkEntries) (number : ℕ) → remove_entry (is_at (nat_cmp number)) entries ≡ remove_entry (nat_eq number) entries
removed_by_number entries number = ap (λ (test : ℕ → Bool). remove_entry test entries) (same_tests number)

-- ---- marks

lookup-shown : (test : ℕ → Bool) (entries : MarkEntries) → lookup test (marks_of entries) ≡ option_map shown (lookup test entries)
lookup-shown test [] = refl
lookup-shown test (entry ∷ entries) =
    split (test entry.0)
    (λ t. cond-true (test entry.0) _ _ t ∙ sym (ap (option_map shown) (cond-true (test entry.0) (Some entry.1) (lookup test entries) t)))
    (λ f. cond-false (test entry.0) _ _ f ∙ (lookup-shown test entries ∙ sym (ap (option_map shown) (cond-false (test entry.0) (Some entry.1) (lookup test entries) f))))

pub mark_at-shown : (entries : MarkEntries) (number : ℕ) → mark_at (marks_of entries) number ≡ option_map shown (kept_at entries number)
mark_at-shown entries number = lookup-shown (nat_eq number) entries ∙ ap (option_map shown) (sym (kept_by_number entries number))

pub mark_at-kept : (entries : MarkEntries) (number : ℕ) (kept : Kept) → kept_at entries number ≡ Some kept → mark_at (marks_of entries) number ≡ Some (shown kept)
mark_at-kept entries number kept e = mark_at-shown entries number ∙ ap (option_map shown) e

pub mark_at-missing : (entries : MarkEntries) (number : ℕ) → kept_at entries number ≡ None → mark_at (marks_of entries) number ≡ None
mark_at-missing entries number e = mark_at-shown entries number ∙ ap (option_map shown) e

removed-shown : (test : ℕ → Bool) (entries : MarkEntries) → marks_of (remove_entry test entries) ≡ remove_entry test (marks_of entries)
removed-shown test [] = refl
removed-shown test (entry ∷ entries) =
    split (test entry.0)
    (λ t. ap marks_of (cond-true (test entry.0) entries (entry ∷ remove_entry test entries) t) ∙ sym (cond-true (test entry.0) _ _ t))
    (λ f. ap marks_of (cond-false (test entry.0) entries (entry ∷ remove_entry test entries) f)
    ∙ (ap (λ (marks : Marks). (entry.0, shown entry.1) ∷ marks) (removed-shown test entries) ∙ sym (cond-false (test entry.0) _ _ f)))

pub marks-removed : (entries : MarkEntries) (number : ℕ) → marks_of (remove_entry (is_at (nat_cmp number)) entries) ≡ remove_entry (nat_eq number) (marks_of entries)
marks-removed entries number = ap marks_of (removed_by_number entries number) ∙ removed-shown (nat_eq number) entries

-- a value that is set shows as a revised mark
pub marks-set : (entries : MarkEntries) (number : ℕ) (revision : Mark → Mark) (old new : Kept) → kept_at entries number ≡ Some old → shown new ≡ revision (shown old) → marks_of (set_value (is_at (nat_cmp number)) entries new) ≡ revise number revision (marks_of entries)
marks-set [] number revision old new e same = refl
marks-set (entry ∷ entries) number revision old new e same =
    split (nat_eq number entry.0)
    (λ t. let s = same_test number entry.0 ∙ t in
    let was : entry.1 ≡ old = same_Some _ _ (cond_at_true (is_at (nat_cmp number) entry.0) _ _ _ s e) in
    ap marks_of (cond-true (is_at (nat_cmp number) entry.0) _ _ s)
    ∙ (ap (λ (m : Mark). (entry.0, m) ∷ marks_of entries) (same ∙ ap (λ (k : Kept). revision (shown k)) (sym was))
    ∙ sym (cond-true (nat_eq number entry.0) ((entry.0, revision (shown entry.1)) ∷ marks_of entries) _ t)))
    (λ f. let s = same_test number entry.0 ∙ f in
    ap marks_of (cond-false (is_at (nat_cmp number) entry.0) _ _ s)
    ∙ (ap (λ (marks : Marks). (entry.0, shown entry.1) ∷ marks) (marks-set entries number revision old new (cond_at_false (is_at (nat_cmp number) entry.0) _ _ _ s e) same)
    ∙ sym (cond-false (nat_eq number entry.0) _ _ f)))

-- one that shows the same leaves the marks
pub marks-set_same : (entries : MarkEntries) (number : ℕ) (old new : Kept) → kept_at entries number ≡ Some old → shown new ≡ shown old → marks_of (set_value (is_at (nat_cmp number)) entries new) ≡ marks_of entries
marks-set_same [] number old new e same = refl
marks-set_same (entry ∷ entries) number old new e same =
    split (is_at (nat_cmp number) entry.0)
    (λ s. let was : entry.1 ≡ old = same_Some _ _ (cond_at_true (is_at (nat_cmp number) entry.0) _ _ _ s e) in
    ap marks_of (cond-true (is_at (nat_cmp number) entry.0) _ _ s) ∙ ap (λ (m : Mark). (entry.0, m) ∷ marks_of entries) (same ∙ ap shown (sym was)))
    (λ s. ap marks_of (cond-false (is_at (nat_cmp number) entry.0) _ _ s)
    ∙ ap (λ (marks : Marks). (entry.0, shown entry.1) ∷ marks) (marks-set_same entries number old new (cond_at_false (is_at (nat_cmp number) entry.0) _ _ _ s e) same))

pub keys-shown : (entries : MarkEntries) → keys_of (marks_of entries) ≡ keys_of entries
keys-shown [] = refl
keys-shown (entry ∷ entries) = ap (λ (keys : List ℕ). entry.0 ∷ keys) (keys-shown entries)

pub rising_marks : (entries : MarkEntries) → IsStrictlySortedBy nat_cmp (keys_of entries) → IsStrictlySortedBy nat_cmp (keys_of (marks_of entries))
rising_marks entries rising = subst (IsStrictlySortedBy nat_cmp) (sym (keys-shown entries)) rising

pub found_mark : (entries : MarkEntries) (number : ℕ) (mark : Mark) → IsMarkMade entries number mark → mark_at (marks_of entries) number ≡ Some mark
found_mark entries number mark is = mark_at-kept entries number is.kept is.found ∙ ap (λ (m : Mark). Some m) is.shows

-- a revision of no node leaves the marks
pub revised-missing : (number : ℕ) (revision : Mark → Mark) (marks : Marks) → mark_at marks number ≡ None → revise number revision marks ≡ marks
revised-missing number revision [] e = refl
revised-missing number revision (mark ∷ marks) e =
    split (nat_eq number mark.0)
    (λ t. absurd (none-some _ (sym (cond_at_true (nat_eq number mark.0) _ _ _ t e))))
    (λ f. cond-false (nat_eq number mark.0) _ _ f ∙ ap (λ (rest : Marks). mark ∷ rest) (revised-missing number revision marks (cond_at_false (nat_eq number mark.0) _ _ _ f e)))

-- ---- one mark more

by_numbers : {P : Type 0} (one other : ℕ) → (nat_cmp one other ≡ Less → one < other → P) → (nat_cmp one other ≡ Equal → one ≡ other → P) → (nat_cmp one other ≡ Greater → other < one → P) → P
by_numbers one other less equal greater =
    split (nat_lt one other)
    (λ t. less (cond-true (nat_lt one other) _ _ t) (ltb-true one other t))
    (λ f. split (nat_eq one other)
    (λ t. equal (cond-false (nat_lt one other) _ _ f ∙ cond-true (nat_eq one other) _ _ t) (eqb-true one other t))
    (λ s. greater (cond-false (nat_lt one other) _ _ f ∙ cond-false (nat_eq one other) _ _ s) (greater_from one other f s)))
  where
    greater_from : (one other : ℕ) → nat_lt one other ≡ false → nat_eq one other ≡ false → other < one
    greater_from one other f s = (let le = ltb-false one other f in let differ = eqb-false one other s in omega (arith, le, differ))

module _ {V : Type 0} where
  abbrev place_in : ℕ → V → (ℕ × V) → List (ℕ × V) → Ordering → List (ℕ × V)
  place_in number value row rows o = match_ordering o ((number, value) ∷ row ∷ rows) ((row.0, value) ∷ rows) (row ∷ insert_entry nat_cmp rows number value)

  -- a row that is put in and taken out again
  pub removed-inserted : (rows : List (ℕ × V)) (number : ℕ) (value : V) → lookup (nat_eq number) rows ≡ None → remove_entry (nat_eq number) (insert_entry nat_cmp rows number value) ≡ rows
  removed-inserted [] number value e = cond-true (nat_eq number number) _ _ (eq-eqb number number refl)
  removed-inserted (row ∷ rows) number value e =
      by_numbers number row.0
      (λ o lt. ap (λ (r : Ordering). remove_entry (nat_eq number) (place_in number value row rows r)) o
      ∙ cond-true (nat_eq number number) _ _ (eq-eqb number number refl))
      (λ o same. absurd (none-some _ (sym e ∙ cond-true (nat_eq number row.0) _ _ (eq-eqb number row.0 same))))
      (λ o gt. let f : nat_eq number row.0 ≡ false = ne_eqb number row.0 (λ h. omega (arith, h, gt)) in
      ap (λ (r : Ordering). remove_entry (nat_eq number) (place_in number value row rows r)) o
      ∙ (cond-false (nat_eq number row.0) _ _ f
      ∙ ap (λ (rest : List (ℕ × V)). row ∷ rest) (removed-inserted rows number value (cond_at_false (nat_eq number row.0) _ _ _ f e))))

  -- the first row among rising ones
  insert-above : (rows : List (ℕ × V)) (number : ℕ) (value : V) → AreAbove number rows → insert_entry nat_cmp rows number value ≡ (number, value) ∷ rows
  insert-above [] number value above = refl
  insert-above (row ∷ rows) number value above = ap (λ (r : Ordering). place_in number value row rows r) above.0

  -- a row that is taken out and put in again
  pub inserted-removed : (rows : List (ℕ × V)) (number : ℕ) (value : V) → IsStrictlySortedBy nat_cmp (keys_of rows) → lookup (nat_eq number) rows ≡ Some value → insert_entry nat_cmp (remove_entry (nat_eq number) rows) number value ≡ rows
  inserted-removed [] number value rising e = absurd (none-some _ e)
  inserted-removed (row ∷ rows) number value rising e =
      split (nat_eq number row.0)
      (λ t. let n : number ≡ row.0 = eqb-true number row.0 t in
      let v : row.1 ≡ value = same_Some _ _ (cond_at_true (nat_eq number row.0) _ _ _ t e) in
      ap (λ (rest : List (ℕ × V)). insert_entry nat_cmp rest number value) (cond-true (nat_eq number row.0) _ _ t)
      ∙ (insert-above rows number value (subst (λ (m : ℕ). AreAbove m rows) (sym n) (rising_head row rows rising))
      ∙ (ap (λ (m : ℕ). (m, value) ∷ rows) n ∙ ap (λ (w : V). (row.0, w) ∷ rows) (sym v))))
      (λ f. let later = cond_at_false (nat_eq number row.0) _ _ _ f e in
      let gt : nat_cmp number row.0 ≡ Greater = greater_later row rows number value rising f later in
      ap (λ (rest : List (ℕ × V)). insert_entry nat_cmp rest number value) (cond-false (nat_eq number row.0) _ _ f)
      ∙ (ap (λ (r : Ordering). place_in number value row (remove_entry (nat_eq number) rows) r) gt
      ∙ ap (λ (rest : List (ℕ × V)). row ∷ rest) (inserted-removed rows number value (rising_tail row rows rising) later)))
    where
      greater_later : (row : ℕ × V) (rows : List (ℕ × V)) (number : ℕ) (value : V) → IsStrictlySortedBy nat_cmp (keys_of (row ∷ rows)) → nat_eq number row.0 ≡ false → lookup (nat_eq number) rows ≡ Some value → nat_cmp number row.0 ≡ Greater
      greater_later row rows number value rising f later =
          let gt : row.0 < number = above_found row.0 number value rows (rising_head row rows rising) later in
          cond-false (nat_lt number row.0) _ _ (le-ltb number row.0 (omega (arith, gt))) ∙ cond-false (nat_eq number row.0) _ _ f

  -- a row that is there is put in again
  pub inserted-again : (rows : List (ℕ × V)) (number : ℕ) (value : V) → IsStrictlySortedBy nat_cmp (keys_of rows) → lookup (nat_eq number) rows ≡ Some value → insert_entry nat_cmp rows number value ≡ rows
  inserted-again [] number value rising e = absurd (none-some _ e)
  inserted-again (row ∷ rows) number value rising e =
      by_numbers number row.0
      (λ o lt. absurd (none-some _ (sym (none_below number (row ∷ rows) (o, above_more number row rows lt (rising_head row rows rising))) ∙ e)))
      (λ o same. let v : row.1 ≡ value = same_Some _ _ (cond_at_true (nat_eq number row.0) _ _ _ (eq-eqb number row.0 same) e) in
      ap (λ (r : Ordering). place_in number value row rows r) o ∙ ap (λ (w : V). (row.0, w) ∷ rows) (sym v))
      (λ o gt. let f : nat_eq number row.0 ≡ false = ne_eqb number row.0 (λ h. omega (arith, h, gt)) in
      ap (λ (r : Ordering). place_in number value row rows r) o
      ∙ ap (λ (rest : List (ℕ × V)). row ∷ rest) (inserted-again rows number value (rising_tail row rows rising) (cond_at_false (nat_eq number row.0) _ _ _ f e)))
    where
      above_more : (number : ℕ) (row : ℕ × V) (rows : List (ℕ × V)) → number < row.0 → AreAbove row.0 rows → AreAbove number rows
      above_more number row [] lt above = tt
      above_more number row (next ∷ rows) lt above = (
        less_from_lt number next.0 (let up = lt_from_less row.0 next.0 above.0 in omega (arith, lt, up)),
        above_more number row rows lt above.1,
      )

-- ---- what the map of the marks says

-- a mark that is set
pub record SetsMark (old new : MarkEntries) (number : ℕ) (mark : Kept) : Type 0 where
  pub entries : new ≡ set_value (is_at (nat_cmp number)) old mark
  pub found : (other : ℕ) → kept_at new other ≡ cond (is_at (nat_cmp number) other) (Some mark) (kept_at old other)
  pub rising : IsStrictlySortedBy nat_cmp (keys_of new)

some_from_value : {A : Type 0} (found : Option A) (value : A) → found ≡ Some value → IsSome found
some_from_value found value e = subst IsSome (sym e) refl

pub SetsMark-from_map : (m n : BTreeMap ℕ Kept) (number : ℕ) (was now : Kept) → kept_at m.entries number ≡ Some was → WritesThrough nat_cmp (nat_cmp number) m now n → SetsMark m.entries n.entries number now
SetsMark-from_map m n number was now there h =
    record { entries = h.0; found = (h.3 (some_from_value (kept_at m.entries number) was there)).0; rising = h.4 }

-- what is told of a map's value after a reference
pub found_behind : {A : Type 0} (result : Option (MutBor A)) (found : Option A) (mark : MutBor A) → option_copied_mut result ≡ found → result ≡ Some mark → found ≡ Some mark.now
found_behind result found mark value is = sym value ∙ ap option_copied_mut is

-- ---- marks in order

pub AreOrdered-with : (old new : MarkEntries) (number : ℕ) (mark : Kept) → AreOrdered old → IsStrictlySortedBy nat_cmp (keys_of new) → ((other : ℕ) → kept_at new other ≡ cond (is_at (nat_cmp number) other) (Some mark) (kept_at old other)) → AreSorted mark.attributes.items → AreOrdered new
AreOrdered-with old new number mark ordered rising found sorted =
    record {
      rising = rising;
      sorted = λ other kept e.
          split (is_at (nat_cmp number) other)
          (λ t. subst (λ (k : Kept). AreSorted k.attributes.items) (same_Some _ _ (sym (cond-true (is_at (nat_cmp number) other) _ _ t) ∙ (sym (found other) ∙ e))) sorted)
          (λ f. ordered.sorted other kept (sym (cond-false (is_at (nat_cmp number) other) _ _ f) ∙ (sym (found other) ∙ e)));
    }

pub AreOrdered-without : (old new : MarkEntries) (number : ℕ) → AreOrdered old → IsStrictlySortedBy nat_cmp (keys_of new) → ((other : ℕ) → kept_at new other ≡ cond (is_at (nat_cmp number) other) None (kept_at old other)) → AreOrdered new
AreOrdered-without old new number ordered rising found =
    record {
      rising = rising;
      sorted = λ other kept e.
          split (is_at (nat_cmp number) other)
          (λ t. absurd (none-some _ (sym (cond-true (is_at (nat_cmp number) other) _ _ t) ∙ (sym (found other) ∙ e))))
          (λ f. ordered.sorted other kept (sym (cond-false (is_at (nat_cmp number) other) _ _ f) ∙ (sym (found other) ∙ e)));
    }

pub Revises-from_set : (old new : MarkEntries) (number : ℕ) (was now : Kept) (revision : Mark → Mark) → AreOrdered old → kept_at old number ≡ Some was → SetsMark old new number now → AreSorted now.attributes.items → shown now ≡ revision (shown was) → Revises old new number revision
Revises-from_set old new number was now revision ordered there sets sorted same =
    record {
      ordered = AreOrdered-with old new number now ordered sets.rising sets.found sorted;
      marks = ap marks_of sets.entries ∙ marks-set old number revision was now there same;
    }

pub Revises-missing : (entries : MarkEntries) (number : ℕ) (revision : Mark → Mark) → AreOrdered entries → kept_at entries number ≡ None → Revises entries entries number revision
Revises-missing entries number revision ordered missing =
    record { ordered = ordered; marks = sym (revised-missing number revision (marks_of entries) (mark_at-missing entries number missing)) }

-- a mark that is set with the same attributes, and room for more
pub Stays-from_set : (old new : MarkEntries) (number : ℕ) (was now : Kept) → AreOrdered old → kept_at old number ≡ Some was → SetsMark old new number now → shown now ≡ shown was → MetaStays old new
Stays-from_set old new number was now ordered there sets same =
    record {
      ordered = AreOrdered-with old new number now ordered sets.rising sets.found
          (subst (λ (m : Mark). AreSorted m.attributes) (sym same) (ordered.sorted number was there));
      same = ap marks_of sets.entries ∙ marks-set_same old number was now there same;
    }

pub kept_set : (old new : MarkEntries) (number : ℕ) (mark : Kept) → SetsMark old new number mark → kept_at new number ≡ Some mark
kept_set old new number mark sets = sets.found number ∙ cond-true (is_at (nat_cmp number) number) _ _ (itself number)

-- ---- a mark that is ready to be made

pub none_sorted : AreSorted []
unfolding IsStrictlySortedBy
none_sorted = tt

-- the marks with a new one show what they showed, once it is taken out
pub Prepares-made : (old new : MarkEntries) (number : ℕ) (owner : List ℕ) (parent : ℕ) (mark : Kept) → AreOrdered old → kept_at old number ≡ None → new ≡ insert_entry nat_cmp old number mark → IsStrictlySortedBy nat_cmp (keys_of new) → ((other : ℕ) → kept_at new other ≡ cond (is_at (nat_cmp number) other) (Some mark) (kept_at old other)) → shown mark ≡ new_mark owner parent → PreparesMeta old new (Made number owner parent)
Prepares-made old new number owner parent mark ordered missing is rising found shows =
    record {
      kept = record {
        ordered = AreOrdered-with old new number mark ordered rising found (subst (λ (m : Mark). AreSorted m.attributes) (sym shows) none_sorted);
        prepared = record { kept = mark; found = found number ∙ cond-true (is_at (nat_cmp number) number) _ _ (itself number); shows = shows };
      };
      same = ap (λ (es : MarkEntries). marks_of (remove_entry (is_at (nat_cmp number)) es)) is
          ∙ (ap marks_of (removed_by_number (insert_entry nat_cmp old number mark) number)
          ∙ ap marks_of (removed-inserted old number mark (sym (kept_by_number old number) ∙ missing)));
    }

-- the mark that is made is the one that was ready
pub made : (entries : MarkEntries) (number : ℕ) (mark : Mark) → AreOrdered entries → IsMarkMade entries number mark → insert_entry nat_cmp (marks_of (remove_entry (is_at (nat_cmp number)) entries)) number mark ≡ marks_of entries
made entries number mark ordered is =
    ap (λ (marks : Marks). insert_entry nat_cmp marks number mark) (marks-removed entries number)
    ∙ inserted-removed (marks_of entries) number mark (rising_marks entries ordered.rising) (found_mark entries number mark is)

pub made_again : (entries : MarkEntries) (number : ℕ) (mark : Mark) → AreOrdered entries → IsMarkMade entries number mark → insert_entry nat_cmp (marks_of entries) number mark ≡ marks_of entries
made_again entries number mark ordered is =
    inserted-again (marks_of entries) number mark (rising_marks entries ordered.rising) (found_mark entries number mark is)

-- the room of the mark that is found
pub room_at : (entries : MarkEntries) (number len : ℕ) (mark : Kept) → HasMarkRoom entries number len → kept_at entries number ≡ Some mark → len ≤ vec_capacity mark.attributes
room_at entries number len mark room there = subst (λ (k : Kept). len ≤ vec_capacity k.attributes) (same_Some _ _ (sym room.found ∙ there)) room.room

-- ---- one mark alone

none_ordered : AreOrdered []
unfolding IsStrictlySortedBy
none_ordered = record { rising = tt; sorted = λ number kept e. absurd (none-some _ e) }

pub fresh_kept : (old new : MarkEntries) (mark : Kept) → old ≡ [] → IsStrictlySortedBy nat_cmp (keys_of new) → ((other : ℕ) → kept_at new other ≡ cond (is_at (nat_cmp 1) other) (Some mark) (kept_at old other)) → mark.attributes.items ≡ [] → IsMarkIndex new None
fresh_kept old new mark none rising found items =
    record { ordered = AreOrdered-with old new 1 mark (subst AreOrdered (sym none) none_ordered) rising found (subst AreSorted (sym items) none_sorted); prepared = tt }
