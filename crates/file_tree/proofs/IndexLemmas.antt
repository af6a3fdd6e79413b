-- The nodes that are kept, seen as the rows of a tree.
use Rattle.std.proofs.Common.{◌≡◌, ◌≢◌, ℕ, ◌-◌, ◌<◌, inl, inr, Bool, true, false, cond, Option, Some, None, option_map, IsSome, List, [], ◌∷◌, ◌++◌, length, take, refl, sym, ap, ◌∙◌, subst, arith, nat_eq, nat_lt, nat_cmp, is_eq, Ordering, Less, Equal, Greater, Bor, MutBor, take_all, le_refl, length-append}
use Rattle.std.specs.Map.{lookup, remove_entry, set_value, keys_of}
use Rattle.std.specs.BTreeMap.{BTreeMap, is_at, insert_entry, WritesThrough, Updates, UpdatesBy}
use Rattle.std.specs.Option.{option_copied, option_copied_mut}
use Rattle.std.specs.Ordering.{match_ordering}
use Rattle.std.proofs.lemmas.List.{take-append-le}
use Rattle.std.specs.Cmp.Lexicographic.{slice_cmp}
use Rattle.std.specs.List.Sorted.{IsStrictlySortedBy}
use Rattle.std.specs.Str.{bytes_eq}
use Rattle.std.proofs.lemmas.Bool.{cond-true, cond-false, false≢true, ltb-true, le-ltb, eq-eqb, ne_eqb, and_cases, cases_eq}
use Rattle.std.proofs.lemmas.Map.Text.{is_eq-slice_cmp}
use Rattle.std.proofs.lemmas.Slice.Eq.{bytes_eq-Decides}
use Rattle.std.proofs.lemmas.Option.{same_Some}
use Rattle.file_world.specs.Tree.{Place, Node, Nodes, node_at, is_place}
use Rattle.file_world.specs.TreeEffect.{at, revise}
use Rattle.file_world.proofs.RowLemmas.{split, cond_at_true, cond_at_false, lookup-append_none, above_found, rising_head, rising_tail}
use Rattle.file_tree.specs.declared.node.KeptNode.{KeptNode as Kept}
use Rattle.file_tree.specs.Index.{Entries, node_shown, rows_of, kept_at, number_in, reserved_at, Puts, ChangesRoomAlone, AreNumbersBelow}

-- ---- tests of numbers and names

pub same_test : (number other : ℕ) → is_at (nat_cmp number) other ≡ nat_eq number other
same_test number other =
    split (nat_lt number other)
    (λ t. ap is_eq (cond-true (nat_lt number other) Less (cond (nat_eq number other) Equal Greater) t)
    ∙ sym (ne_eqb number other (λ h. let lt : number < other = ltb-true number other t in omega (arith, h, lt))))
    (λ f. ap is_eq (cond-false (nat_lt number other) Less (cond (nat_eq number other) Equal Greater) f)
    ∙ split (nat_eq number other)
    (λ s. ap is_eq (cond-true (nat_eq number other) Equal Greater s) ∙ sym s)
    (λ s. ap is_eq (cond-false (nat_eq number other) Equal Greater s) ∙ sym s))

-- the two tests find the same
pub same_found : (entries : Entries) (number : ℕ) → lookup (nat_eq number) entries ≡ kept_at entries number
same_found [] number = refl
same_found (entry ∷ entries) number =
    ap (λ (b : Bool). cond b (Some entry.1) (lookup (nat_eq number) entries)) (sym (same_test number entry.0))
    ∙ ap (λ (rest : Option Kept). cond (is_at (nat_cmp number) entry.0) (Some entry.1) rest) (same_found entries number)

-- ---- rows

pub node_at-rows : (entries : Entries) (number : ℕ) → node_at (rows_of entries) number ≡ option_map node_shown (kept_at entries number)
node_at-rows [] number = refl
node_at-rows (entry ∷ entries) number =
    split (nat_eq number entry.0)
    (λ t. cond-true (nat_eq number entry.0) _ _ t ∙ sym (ap (option_map node_shown) (cond-true (is_at (nat_cmp number) entry.0) _ _ (same_test number entry.0 ∙ t))))
    (λ f. cond-false (nat_eq number entry.0) _ _ f ∙ (node_at-rows entries number ∙ sym (ap (option_map node_shown) (cond-false (is_at (nat_cmp number) entry.0) _ _ (same_test number entry.0 ∙ f)))))

-- a kept node shows as a row
pub node_at-kept : (entries : Entries) (number : ℕ) (kept : Kept) → kept_at entries number ≡ Some kept → node_at (rows_of entries) number ≡ Some (node_shown kept)
node_at-kept entries number kept e = node_at-rows entries number ∙ ap (option_map node_shown) e

pub node_at-missing : (entries : Entries) (number : ℕ) → kept_at entries number ≡ None → node_at (rows_of entries) number ≡ None
node_at-missing entries number e = node_at-rows entries number ∙ ap (option_map node_shown) e

-- a value that is set shows as a revised row
pub rows-set_value : (entries : Entries) (number : ℕ) (revision : Node → Node) (old new : Kept) → kept_at entries number ≡ Some old → node_shown new ≡ revision (node_shown old) → rows_of (set_value (is_at (nat_cmp number)) entries new) ≡ revise number revision (rows_of entries)
rows-set_value [] number revision old new e same = refl
rows-set_value (entry ∷ entries) number revision old new e same =
    split (nat_eq number entry.0)
    (λ t. let s = same_test number entry.0 ∙ t in
    let was : entry.1 ≡ old = same_Some _ _ (cond_at_true (is_at (nat_cmp number) entry.0) _ _ _ s e) in
    ap rows_of (cond-true (is_at (nat_cmp number) entry.0) _ _ s)
    ∙ (ap (λ (n : Node). (entry.0, n) ∷ rows_of entries) (same ∙ ap (λ (k : Kept). revision (node_shown k)) (sym was))
    ∙ sym (cond-true (nat_eq number entry.0) ((entry.0, revision (node_shown entry.1)) ∷ rows_of entries) _ t)))
    (λ f. let s = same_test number entry.0 ∙ f in
    ap rows_of (cond-false (is_at (nat_cmp number) entry.0) _ _ s)
    ∙ (ap (λ (rows : Nodes). (entry.0, node_shown entry.1) ∷ rows) (rows-set_value entries number revision old new (cond_at_false (is_at (nat_cmp number) entry.0) _ _ _ s e) same)
    ∙ sym (cond-false (nat_eq number entry.0) _ _ f)))

-- one that shows the same leaves the rows
pub rows-set_value_same : (entries : Entries) (number : ℕ) (old new : Kept) → kept_at entries number ≡ Some old → node_shown new ≡ node_shown old → rows_of (set_value (is_at (nat_cmp number)) entries new) ≡ rows_of entries
rows-set_value_same [] number old new e same = refl
rows-set_value_same (entry ∷ entries) number old new e same =
    split (is_at (nat_cmp number) entry.0)
    (λ s. let was : entry.1 ≡ old = same_Some _ _ (cond_at_true (is_at (nat_cmp number) entry.0) _ _ _ s e) in
    ap rows_of (cond-true (is_at (nat_cmp number) entry.0) _ _ s) ∙ ap (λ (n : Node). (entry.0, n) ∷ rows_of entries) (same ∙ ap node_shown (sym was)))
    (λ s. ap rows_of (cond-false (is_at (nat_cmp number) entry.0) _ _ s)
    ∙ ap (λ (rows : Nodes). (entry.0, node_shown entry.1) ∷ rows) (rows-set_value_same entries number old new (cond_at_false (is_at (nat_cmp number) entry.0) _ _ _ s e) same))

pub rows-remove_entry : (entries : Entries) (number : ℕ) → rows_of (remove_entry (is_at (nat_cmp number)) entries) ≡ remove_entry (nat_eq number) (rows_of entries)
rows-remove_entry [] number = refl
rows-remove_entry (entry ∷ entries) number =
    split (nat_eq number entry.0)
    (λ t. ap rows_of (cond-true (is_at (nat_cmp number) entry.0) _ _ (same_test number entry.0 ∙ t)) ∙ sym (cond-true (nat_eq number entry.0) _ _ t))
    (λ f. ap rows_of (cond-false (is_at (nat_cmp number) entry.0) _ _ (same_test number entry.0 ∙ f))
    ∙ (ap (λ (rows : Nodes). (entry.0, node_shown entry.1) ∷ rows) (rows-remove_entry entries number) ∙ sym (cond-false (nat_eq number entry.0) _ _ f)))

-- ---- names

-- another place is another directory or another name
pub other_name : (place : Place) (name : List ℕ) → is_place place (at place.directory name) ≡ false → is_at (slice_cmp nat_cmp place.name) name ≡ false
other_name place name e =
    is_eq-slice_cmp place.name name
    ∙ elim (and_cases (nat_eq place.directory place.directory) (bytes_eq place.name name) e) [
      | inl h ↦ absurd (false≢true (sym h ∙ eq-eqb place.directory place.directory refl))
      | inr h ↦ h
    ]

-- a directory's names with one changed
pub record ChangesName (old new : Kept) (name : List ℕ) (number : Option ℕ) : Type 0 where
  pub names : (other : List ℕ) → number_in (Some new) other ≡ cond (is_at (slice_cmp nat_cmp name) other) number (number_in (Some old) other)
  pub same : node_shown new ≡ node_shown old

-- what the map of the nodes says of a value that is set
pub record SetsValue (old new : Entries) (number : ℕ) (value : Kept) : Type 0 where
  pub entries : new ≡ set_value (is_at (nat_cmp number)) old value
  pub found : (other : ℕ) → kept_at new other ≡ cond (is_at (nat_cmp number) other) (Some value) (kept_at old other)

pub is_name_itself : (name : List ℕ) → is_at (slice_cmp nat_cmp name) name ≡ true
is_name_itself name = is_eq-slice_cmp name name ∙ (bytes_eq-Decides name name).1 refl

is_number_itself : (number : ℕ) → is_at (nat_cmp number) number ≡ true
is_number_itself number = same_test number number ∙ eq-eqb number number refl

pub kept-set : (old new : Entries) (number : ℕ) (value : Kept) → SetsValue old new number value → kept_at new number ≡ Some value
kept-set old new number value sets = sets.found number ∙ cond-true (is_at (nat_cmp number) number) _ _ (is_number_itself number)

pub kept-unset : (old new : Entries) (number : ℕ) (value : Kept) → SetsValue old new number value → (other : ℕ) → other ≢ number → kept_at new other ≡ kept_at old other
kept-unset old new number value sets other apart =
    sets.found other ∙ cond-false (is_at (nat_cmp number) other) _ _ (same_test number other ∙ ne_eqb number other (λ h. apart (sym h)))

pub Puts-from_set : (old new : Entries) (place : Place) (number : Option ℕ) (was now : Kept) → kept_at old place.directory ≡ Some was → SetsValue old new place.directory now → ChangesName was now place.name number → Puts old new place number
Puts-from_set old new place number was now there sets changes =
    record {
      here = ap (λ (k : Option Kept). number_in k place.name) (kept-set old new place.directory now sets)
          ∙ (changes.names place.name ∙ cond-true (is_at (slice_cmp nat_cmp place.name) place.name) _ _ (is_name_itself place.name));
      elsewhere = λ directory name apart. elim (cases_eq directory place.directory) [
        | inl same ↦ let e : is_place place (at place.directory name) ≡ false = ap (λ (d : ℕ). is_place place (at d name)) (sym same) ∙ apart in
            ap (λ (d : ℕ). reserved_at new d name) same
            ∙ (ap (λ (k : Option Kept). number_in k name) (kept-set old new place.directory now sets)
            ∙ (changes.names name
            ∙ (cond-false (is_at (slice_cmp nat_cmp place.name) name) _ _ (other_name place name e)
            ∙ (ap (λ (k : Option Kept). number_in k name) (sym there)
            ∙ ap (λ (d : ℕ). reserved_at old d name) (sym same)))))
        | inr other ↦ ap (λ (k : Option Kept). number_in k name) (kept-unset old new place.directory now sets directory other)
      ];
      same_rows = ap rows_of sets.entries ∙ rows-set_value_same old place.directory was now there changes.same;
    }

-- a value that is set with the same names leaves all names
pub held-set : (old new : Entries) (number : ℕ) (was now : Kept) → kept_at old number ≡ Some was → SetsValue old new number now → ((name : List ℕ) → number_in (Some now) name ≡ number_in (Some was) name) → (directory : ℕ) (name : List ℕ) → reserved_at new directory name ≡ reserved_at old directory name
held-set old new number was now there sets same directory name =
    elim (cases_eq directory number) [
      | inl e ↦ ap (λ (d : ℕ). reserved_at new d name) e
          ∙ (ap (λ (k : Option Kept). number_in k name) (kept-set old new number now sets)
          ∙ (same name ∙ (ap (λ (k : Option Kept). number_in k name) (sym there) ∙ ap (λ (d : ℕ). reserved_at old d name) (sym e))))
      | inr other ↦ ap (λ (k : Option Kept). number_in k name) (kept-unset old new number now sets directory other)
    ]

-- ---- what the maps say

some_from_value : {A : Type 0} (found : Option A) (value : A) → found ≡ Some value → IsSome found
some_from_value found value e = subst IsSome (sym e) refl

pub SetsValue-from_map : (m n : BTreeMap ℕ Kept) (number : ℕ) (was now : Kept) → kept_at m.entries number ≡ Some was → WritesThrough nat_cmp (nat_cmp number) m now n → SetsValue m.entries n.entries number now
SetsValue-from_map m n number was now there h =
    record { entries = h.0; found = (h.3 (some_from_value (kept_at m.entries number) was there)).0 }

-- what is told of a map's value after a `&mut`
pub found_behind : {A : Type 0} (result : Option (MutBor A)) (found : Option A) (node : MutBor A) → option_copied_mut result ≡ found → result ≡ Some node → found ≡ Some node.now
found_behind result found node value is = sym value ∙ ap option_copied_mut is

pub found_at : {A : Type 0} (result : Option (Bor A)) (found : Option A) (node : Bor A) → option_copied result ≡ found → result ≡ Some node → found ≡ Some node.now
found_at result found node value is = sym value ∙ ap option_copied is

-- a name that is entered
pub ChangesName-entered : (was now : Kept) (name : List ℕ) (number : Option ℕ) → Updates (slice_cmp nat_cmp) was.names now.names name number → node_shown now ≡ node_shown was → ChangesName was now name number
ChangesName-entered was now name number updates same = record { names = updates.0; same = same }

-- a name that is taken out
pub ChangesName-removed : (was now : Kept) (name : List ℕ) → UpdatesBy (slice_cmp nat_cmp) (slice_cmp nat_cmp name) was.names now.names None → node_shown now ≡ node_shown was → ChangesName was now name None
ChangesName-removed was now name updates same = record { names = updates.0; same = same }

-- a look-up among names with the same entries
pub same_names : (was now : Kept) → now.names.entries ≡ was.names.entries → (name : List ℕ) → number_in (Some now) name ≡ number_in (Some was) name
same_names was now e name = ap (λ (entries : List (List ℕ × ℕ)). lookup (is_at (slice_cmp nat_cmp name)) entries) e

pub ChangesRoomAlone-from_set : (old new : Entries) (number : ℕ) (was now : Kept) → kept_at old number ≡ Some was → SetsValue old new number now → ((name : List ℕ) → number_in (Some now) name ≡ number_in (Some was) name) → node_shown now ≡ node_shown was → ChangesRoomAlone old new
ChangesRoomAlone-from_set old new number was now there sets names same =
    record { same_held = held-set old new number was now there sets names; same_rows = ap rows_of sets.entries ∙ rows-set_value_same old number was now there same }

-- where the directory is not kept, no name is
pub Puts-missing : (entries : Entries) (place : Place) → kept_at entries place.directory ≡ None → Puts entries entries place None
Puts-missing entries place missing =
    record { here = ap (λ (k : Option Kept). number_in k place.name) missing; elsewhere = λ directory name apart. refl; same_rows = refl }

-- ---- a node at the end

pub kept_at-append : (entries : Entries) (next : ℕ) (kept : Kept) (number : ℕ) → number ≢ next → kept_at (entries ++ (next, kept) ∷ []) number ≡ kept_at entries number
kept_at-append [] next kept number apart = cond-false (is_at (nat_cmp number) next) _ _ (same_test number next ∙ ne_eqb number next apart)
kept_at-append (entry ∷ entries) next kept number apart = ap (λ (rest : Option Kept). cond (is_at (nat_cmp number) entry.0) (Some entry.1) rest) (kept_at-append entries next kept number apart)

pub kept_at-last : (entries : Entries) (next : ℕ) (kept : Kept) → kept_at entries next ≡ None → kept_at (entries ++ (next, kept) ∷ []) next ≡ Some kept
kept_at-last entries next kept missing =
    lookup-append_none (is_at (nat_cmp next)) entries ((next, kept) ∷ []) missing ∙ cond-true (is_at (nat_cmp next) next) _ _ (same_test next next ∙ eq-eqb next next refl)

pub rows-append : (entries : Entries) (next : ℕ) (kept : Kept) → rows_of (entries ++ (next, kept) ∷ []) ≡ rows_of entries ++ (next, node_shown kept) ∷ []
rows-append [] next kept = refl
rows-append (entry ∷ entries) next kept = ap (λ (rows : Nodes). (entry.0, node_shown entry.1) ∷ rows) (rows-append entries next kept)

pub take-append_one : (entries : Entries) (entry : ℕ × Kept) → take (length (entries ++ entry ∷ []) - 1) (entries ++ entry ∷ []) ≡ entries
take-append_one entries entry =
    let e : length (entries ++ entry ∷ []) - 1 ≡ length entries = (let h = length-append entries (entry ∷ []) in omega (arith, h)) in
    ap (λ (n : ℕ). take n (entries ++ entry ∷ [])) e ∙ (take-append-le (length entries) entries (entry ∷ []) (le_refl (length entries)) ∙ take_all (length entries) entries (le_refl (length entries)))

-- a key above all others goes to the end
pub insert-last : (entries : Entries) (next : ℕ) (kept : Kept) → IsStrictlySortedBy nat_cmp (keys_of entries) → AreNumbersBelow entries next → insert_entry nat_cmp entries next kept ≡ entries ++ (next, kept) ∷ []
insert-last [] next kept rising below = refl
insert-last (entry ∷ entries) next kept rising below =
    let lt : entry.0 < next = below entry.0 entry.1 (cond-true (is_at (nat_cmp entry.0) entry.0) _ _ (same_test entry.0 entry.0 ∙ eq-eqb entry.0 entry.0 refl)) in
    let greater : nat_cmp next entry.0 ≡ Greater = cond-false (nat_lt next entry.0) _ _ (le-ltb next entry.0 (omega (arith, lt))) ∙ cond-false (nat_eq next entry.0) _ _ (ne_eqb next entry.0 (λ h. omega (arith, h, lt))) in
    ap (λ (o : Ordering). match_ordering o ((next, kept) ∷ entry ∷ entries) ((entry.0, kept) ∷ entries) (entry ∷ insert_entry nat_cmp entries next kept)) greater
    ∙ ap (λ (rest : Entries). entry ∷ rest) (insert-last entries next kept (rising_tail entry entries rising)
    (λ number value e. let up : entry.0 < number = above_found entry.0 number value entries (rising_head entry entries rising) (same_found entries number ∙ e) in
    below number value (cond-false (is_at (nat_cmp number) entry.0) _ _ (same_test number entry.0 ∙ ne_eqb number entry.0 (λ h. omega (arith, h, up))) ∙ e)))
