-- Rows that pass all tests are those of a tree, and those of a tree pass each.
use Rattle.std.proofs.Common.{◌≡◌, ◌≢◌, ℕ, ◌-◌, ◌<◌, ◌≤◌, inl, inr, Bool, true, false, Option, Some, None, Result, Err, List, [], ◌∷◌, length, take, drop, map, get_or, refl, sym, ap, ap₂, ◌∙◌, subst, arith, nat_eq, nat_lt, nat_le}
use Rattle.std.specs.Prelude.{not, ◌||◌, ◌==◌}
use Rattle.std.specs.List.{AllByRecursion, list_all}
use Rattle.std.specs.List.Sorted.{IsStrictlySortedBy}
use Rattle.std.specs.Str.{bytes_eq}
use Rattle.std.proofs.lemmas.Bool.{cond-true, cond-false, false≢true, ltb-true, leb-true, lt-ltb, le-leb, eq-eqb, eqb-true, ne_eqb, cases_eq, and_parts, and_from, and_left, and_right, or_cases, or_left, or_right, not-true, not_from_false, both_ways}
use Rattle.std.proofs.lemmas.List.{nil_from_length, take_all}
use Rattle.std.proofs.lemmas.List.Folds.{list_all-map}
use Rattle.std.proofs.lemmas.Option.{none-some, same_Some}
use Rattle.file_world.specs.declared.operation.Kind.{Kind}
use Rattle.file_world.specs.declared.operation.Kind.TheVariants.{File, Directory}
use Rattle.file_world.specs.FileNames.{is_node_name}
use Rattle.file_world.specs.Limits.{root_number, most_nodes, most_bytes, most_bytes_together, last_number}
use Rattle.file_world.specs.Tree.{Place, Node, Nodes, FileTree, node_at, number_at, is_place, contents_sum, ReachesRoot, at_root, root, IsSound, IsTree}
use Rattle.file_world.specs.TreeEffect.{at, is_directory, is_directory_kind, child_of}
use Rattle.file_world.proofs.RowLemmas.{split, cond_at_true, cond_at_false, lt_from_less, less_from_lt, lookup_here, lookup_later, above_found, AreAbove, AreRising, rising_head, rising_tail, rising_cons}
use Rattle.file_world.proofs.PlaceLemmas.{IsFree, differ_tail, differ_cons, stands_at}
use Rattle.file_world.proofs.EffectLemmas.{directory_from}
use Rattle.node_rows.specs.declared.rows.TreeRow.{TreeRow}
use Rattle.node_rows.specs.declared.rows.RowsFault.{RowsFault}
use Rattle.node_rows.specs.declared.rows.RowsFault.TheVariants.{NotTree, NoMemory}
use Rattle.node_rows.specs.Rows.{tree_row}
use Rattle.file_tree.specs.Index.{Entries, rows_of, reserved_at, IsTreeIndex}
use Rattle.file_tree.specs.State.{TreeView, MakesTree}
use Rattle.file_tree.specs.RowTests.{IfNotTree, ShowsRows, is_root_row, is_sound_row, is_rising_after, are_sound_others, are_sound_rows, AreNamed, NamesRows, leads_below, do_lead}
use Rattle.file_tree.proofs.KeptLemmas.{IsKept-from}
use Rattle.file_tree.proofs.RowWayLemmas.{DoAllLead, all_reached, holder_in_tree, leads_in_tree}

-- ---- what holds of each row

each_from_test : (test : ℕ × Node → Bool) (rows : Nodes) → list_all test rows ≡ true → AllByRecursion (λ row. test row ≡ true) rows
each_from_test test [] e = tt
each_from_test test (row ∷ rows) e = let parts = and_parts (test row) (list_all test rows) e in (parts.0, each_from_test test rows parts.1)

test_from_each : (test : ℕ × Node → Bool) (rows : Nodes) → AllByRecursion (λ row. test row ≡ true) rows → list_all test rows ≡ true
test_from_each test [] each = refl
test_from_each test (row ∷ rows) each = and_from (test row) (list_all test rows) each.0 (test_from_each test rows each.1)

each_found : (P : ℕ → Node → Type 0) (rows : Nodes) → AllByRecursion (λ row. P row.0 row.1) rows → (number : ℕ) (node : Node) → node_at rows number ≡ Some node → P number node
each_found P [] each number node e = absurd (none-some _ e)
each_found P (row ∷ rows) each number node e =
    split (nat_eq number row.0)
    (λ t. subst (λ (n : Node). P number n) (same_Some _ _ (cond_at_true (nat_eq number row.0) _ _ _ t e)) (subst (λ (m : ℕ). P m row.1) (sym (eqb-true number row.0 t)) each.0))
    (λ f. each_found P rows each.1 number node (cond_at_false (nat_eq number row.0) _ _ _ f e))

found_later : (row : ℕ × Node) (rows : Nodes) → AreRising (row ∷ rows) → (number : ℕ) (node : Node) → node_at rows number ≡ Some node → node_at (row ∷ rows) number ≡ Some node
found_later row rows rising number node e =
    let lt : row.0 < number = above_found row.0 number node rows (rising_head row rows rising) e in
    lookup_later (nat_eq number) row rows (ne_eqb number row.0 (λ h. omega (arith, h, lt))) ∙ e

each_from_found : (P : ℕ → Node → Type 0) (rows : Nodes) → AreRising rows → ((number : ℕ) (node : Node) → node_at rows number ≡ Some node → P number node) → AllByRecursion (λ row. P row.0 row.1) rows
each_from_found P [] rising found = tt
each_from_found P (row ∷ rows) rising found = (
  found row.0 row.1 (lookup_here (nat_eq row.0) row rows (eq-eqb row.0 row.0 refl)),
  each_from_found P rows (rising_tail row rows rising) (λ number node e. found number node (found_later row rows rising number node e)),
)

-- ---- numbers that rise

above_lower : (low bound : ℕ) (rows : Nodes) → low < bound → AreAbove bound rows → AreAbove low rows
above_lower low bound [] lt above = tt
above_lower low bound (row ∷ rows) lt above =
    (less_from_lt low row.0 (let up = lt_from_less bound row.0 above.0 in omega (arith, lt, up)), above_lower low bound rows lt above.1)

rising_nil : AreRising {V = Node} []
unfolding IsStrictlySortedBy
rising_nil = tt

rising_from_test : (last : ℕ) (rows : Nodes) → is_rising_after last rows ≡ true → AreAbove last rows × AreRising rows
rising_from_test last [] e = (tt, rising_nil)
rising_from_test last (row ∷ rows) e =
    let parts = and_parts (nat_lt last row.0) (is_rising_after row.0 rows) e in
    let lt = ltb-true last row.0 parts.0 in
    let rest = rising_from_test row.0 rows parts.1 in
    ((less_from_lt last row.0 lt, above_lower last row.0 rows lt rest.0), rising_cons row rows rest.0 rest.1)

test_from_rising : (last : ℕ) (rows : Nodes) → AreAbove last rows → AreRising rows → is_rising_after last rows ≡ true
test_from_rising last [] above rising = refl
test_from_rising last (row ∷ rows) above rising =
    and_from _ _ (lt-ltb last row.0 (lt_from_less last row.0 above.0)) (test_from_rising row.0 rows (rising_head row rows rising) (rising_tail row rows rising))

-- ---- single tests

kind_of : (kind : Kind) → is_directory_kind kind ≡ true → kind ≡ Directory
kind_of File e = absurd (false≢true e)
kind_of Directory e = refl

node_is : (node : Node) (kind : Kind) (directory : ℕ) (name contents : List ℕ) → node.kind ≡ kind → node.place.directory ≡ directory → node.place.name ≡ name → node.contents ≡ contents → node ≡ record { kind = kind; place = record { directory = directory; name = name }; contents = contents }
node_is node kind directory name contents a b c d =
    ap (λ (k : Kind). record { kind = k; place = node.place; contents = node.contents }) a
    ∙ (ap₂ (λ (d : ℕ) (n : List ℕ). record { kind = kind; place = record { directory = d; name = n }; contents = node.contents }) b c
    ∙ ap (λ (cs : List ℕ). record { kind = kind; place = record { directory = directory; name = name }; contents = cs }) d)

root_from_test : (row : ℕ × Node) → is_root_row row ≡ true → row ≡ (1, root)
root_from_test row e =
    let a = and_parts _ (length row.1.contents == 0) e in
    let b = and_parts _ (length row.1.place.name == 0) a.0 in
    let c = and_parts _ (row.1.place.directory == 0) b.0 in
    let d = and_parts (row.0 == root_number) (is_directory_kind row.1.kind) c.0 in
    ap₂ (λ (n : ℕ) (node : Node). (n, node)) (eqb-true row.0 1 d.0)
    (node_is row.1 Directory 0 [] [] (kind_of row.1.kind d.1) (eqb-true row.1.place.directory 0 c.1) (nil_from_length row.1.place.name (eqb-true (length row.1.place.name) 0 b.1)) (nil_from_length row.1.contents (eqb-true (length row.1.contents) 0 a.1)))

-- what the test of a row says
record IsSoundRow (next number : ℕ) (node : Node) : Type 0 where
  pub below_next : number < next
  pub named : is_node_name node.place.name ≡ true
  pub empty : node.kind ≡ Directory → node.contents ≡ []
  pub small : length node.contents ≤ most_bytes

sound_from_test : (next number : ℕ) (node : Node) → is_sound_row next (number, node) ≡ true → IsSoundRow next number node
sound_from_test next number node e =
    let a = and_parts _ (nat_le (length node.contents) most_bytes) e in
    let b = and_parts _ (not (is_directory_kind node.kind) || (length node.contents == 0)) a.0 in
    let c = and_parts (nat_lt number next) (is_node_name node.place.name) b.0 in
    record {
      below_next = ltb-true number next c.0;
      named = c.1;
      empty = λ kind. elim (or_cases (not (is_directory_kind node.kind)) (length node.contents == 0) b.1) [
        | inl h ↦ absurd (both_ways (is_directory_kind node.kind) (not-true (is_directory_kind node.kind) h) (ap is_directory_kind kind))
        | inr h ↦ nil_from_length node.contents (eqb-true (length node.contents) 0 h)
      ];
      small = leb-true (length node.contents) most_bytes a.1;
    }

test_from_sound : (next number : ℕ) (node : Node) → IsSoundRow next number node → is_sound_row next (number, node) ≡ true
test_from_sound next number node sound =
    and_from _ _ (and_from _ _ (and_from _ _ (lt-ltb number next sound.below_next) sound.named) (split (is_directory_kind node.kind)
    (λ t. or_right (not (is_directory_kind node.kind)) (length node.contents == 0) (eq-eqb (length node.contents) 0 (ap length (sound.empty (kind_of node.kind t)))))
    (λ f. or_left (not (is_directory_kind node.kind)) (length node.contents == 0) (not_from_false (is_directory_kind node.kind) f))))
    (le-leb (length node.contents) most_bytes sound.small)

no_empty_name : is_node_name [] ≡ true → ⊥
unfolding is_node_name
no_empty_name e = false≢true e

-- no other row stands where the root stands
free_of_root : (next : ℕ) (rows : Nodes) → AllByRecursion (λ row. is_sound_row next row ≡ true) rows → IsFree (at 0 []) rows
free_of_root next [] each = tt
free_of_root next (row ∷ rows) each =
    (and_right (nat_eq 0 row.1.place.directory) (bytes_eq [] row.1.place.name) (by row.1.place.name (sound_from_test next row.0 row.1 each.0).named), free_of_root next rows each.1)
  where
    by : (name : List ℕ) → is_node_name name ≡ true → bytes_eq [] name ≡ false
    by [] e = absurd (no_empty_name e)
    by (byte ∷ bytes) e = refl

-- ---- rows that pass are those of a tree

-- the first row is the root's, and the others pass all tests
record Pass (next : ℕ) (others : Nodes) : Type 0 where
  pub beyond_root : 1 < next
  pub few : length others < most_nodes
  pub above : AreAbove 1 others
  pub rising : AreRising others
  pub each : AllByRecursion (λ row. is_sound_row next row ≡ true) others

pass_from_test : (next : ℕ) (first : ℕ × Node) (others : Nodes) → are_sound_rows next (first ∷ others) ≡ true → (first ≡ (1, root)) × Pass next others
pass_from_test next first others e =
    let a = and_parts _ (are_sound_others next others) e in
    let b = and_parts (is_root_row first) (nat_lt root_number next) a.0 in
    let c = and_parts _ (list_all (is_sound_row next) others) a.1 in
    let d = and_parts (nat_lt (length others) most_nodes) (is_rising_after root_number others) c.0 in
    let up = rising_from_test 1 others d.1 in (
      root_from_test first b.0,
      record {
        beyond_root = ltb-true 1 next b.1;
        few = ltb-true (length others) most_nodes d.0;
        above = up.0;
        rising = up.1;
        each = each_from_test (is_sound_row next) others c.1;
      },
    )

-- what is found is the root, or is among the others
found_in_others : (others : Nodes) (number : ℕ) (node : Node) → number ≢ 1 → node_at ((1, root) ∷ others) number ≡ Some node → node_at others number ≡ Some node
found_in_others others number node other e = cond_at_false (nat_eq number 1) _ _ _ (ne_eqb number 1 other) e

found_root : (others : Nodes) (number : ℕ) (node : Node) → number ≡ 1 → node_at ((1, root) ∷ others) number ≡ Some node → root ≡ node
found_root others number node one e = same_Some _ _ (cond_at_true (nat_eq number 1) _ _ _ (eq-eqb number 1 one) e)

do_all_lead : (next : ℕ) (others : Nodes) → Pass next others → AreNamed ((1, root) ∷ others) others → do_lead ((1, root) ∷ others) others ≡ true → DoAllLead ((1, root) ∷ others)
do_all_lead next others pass are lead =
    let all : Nodes = (1, root) ∷ others in
    record {
      above_zero = λ number node e. elim (cases_eq number 1) [
        | inl one ↦ omega (arith, one)
        | inr other ↦ let lt : 1 < number = above_found 1 number node others pass.above (found_in_others others number node other e) in omega (arith, lt)
      ];
      held = λ number node e other. each_found (λ n m. is_directory (node_at all m.place.directory) ≡ true) others are.in_directories number node (found_in_others others number node other e);
      lead = λ number node e other. each_found (λ n m. leads_below (length all) all n m.place.directory ≡ true) others
          (each_from_test (λ row. leads_below (length all) all row.0 row.1.place.directory) others lead) number node (found_in_others others number node other e);
    }

tree_from_pass : (next : ℕ) (others : Nodes) → Pass next others → next ≤ last_number → contents_sum ((1, root) ∷ others) ≤ most_bytes_together → AreNamed ((1, root) ∷ others) others → do_lead ((1, root) ∷ others) others ≡ true → IsTree (record { rows = (1, root) ∷ others; next = next })
tree_from_pass next others pass fits_next fits are lead =
    let all : Nodes = (1, root) ∷ others in
    let leads = do_all_lead next others pass are lead in
    record {
      has_root = refl;
      sound = λ number node e. elim (cases_eq number 1) [
        | inl one ↦ subst (IsSound (record { rows = all; next = next }) number) (found_root others number node one e) (record {
          reached = subst (λ (n : ℕ). ReachesRoot all n) (sym one) at_root;
          named = λ other. absurd (other one);
          above_zero = leads.above_zero number node e;
          below_next = (let lt = pass.beyond_root in omega (arith, lt, one));
          empty = λ _. refl;
          small = omega arith;
        })
        | inr other ↦ let sound = sound_from_test next number node (each_found (λ n m. is_sound_row next (n, m) ≡ true) others pass.each number node (found_in_others others number node other e)) in record {
          reached = all_reached all leads number node e;
          named = λ _. sound.named;
          above_zero = leads.above_zero number node e;
          below_next = sound.below_next;
          empty = sound.empty;
          small = sound.small;
        }
      ];
      rising = rising_cons (1, root) others pass.above pass.rising;
      places_differ = differ_cons (1, root) others (free_of_root next others pass.each) are.places_differ;
      few = (let lt = pass.few in omega (arith, lt));
      fits = fits;
      next_fits = fits_next;
    }

-- the names are those of the children
children_named : (entries : Entries) (next : ℕ) (others : Nodes) → IsTree (record { rows = (1, root) ∷ others; next = next }) → NamesRows entries ((1, root) ∷ others) others → (directory : ℕ) (name : List ℕ) → reserved_at entries directory name ≡ child_of ((1, root) ∷ others) directory name
children_named entries next others is names directory name =
    names.named directory name
    ∙ split (is_directory (node_at all directory))
    (λ t. let holds = directory_from all directory t in
    let one : 1 ≤ directory = (is.sound directory holds.node holds.found).above_zero in
    sym (cond-false (is_place (at directory name) root.place) _ _ (and_left (nat_eq directory 0) (bytes_eq name []) (ne_eqb directory 0 (λ h. omega (arith, h, one)))))
    ∙ sym (cond-true (is_directory (node_at all directory)) _ _ t))
    (λ f. none f (number_at others (at directory name)) refl ∙ sym (cond-false (is_directory (node_at all directory)) _ _ f))
  where
    all : Nodes
    all = (1, root) ∷ others

    none : is_directory (node_at all directory) ≡ false → (found : Option ℕ) → number_at others (at directory name) ≡ found → number_at others (at directory name) ≡ None
    none f None h = h
    none f (Some number) h =
        let stands = stands_at (at directory name) number others (rising_tail (1, root) others is.rising) h in
        let held : is_directory (node_at all stands.node.place.directory) ≡ true = each_found (λ n m. is_directory (node_at all m.place.directory) ≡ true) others names.are_named.in_directories number stands.node stands.found in
        absurd (both_ways (is_directory (node_at all directory)) f (ap (λ (p : Place). is_directory (node_at all p.directory)) (sym stands.there) ∙ held))

-- the nodes of rows that pass all tests are those of a tree
pub tree_of_rows : (entries : Entries) (next : ℕ) (first : ℕ × Node) (others : Nodes) → are_sound_rows next (first ∷ others) ≡ true → next ≤ last_number → contents_sum (first ∷ others) ≤ most_bytes_together → NamesRows entries (first ∷ others) others → do_lead (first ∷ others) others ≡ true → IsTreeIndex entries next None
tree_of_rows entries next first others sound fits_next fits names lead =
    let pass = pass_from_test next first others sound in
    let at_first : (1, root) ∷ others ≡ first ∷ others = ap (λ (row : ℕ × Node). row ∷ others) (sym pass.0) in
    by pass.1 (subst (λ (rows : Nodes). contents_sum rows ≤ most_bytes_together) (sym at_first) fits) (subst (λ (rows : Nodes). NamesRows entries rows others) (sym at_first) names) (subst (λ (rows : Nodes). do_lead rows others ≡ true) (sym at_first) lead)
  where
    by : Pass next others → contents_sum ((1, root) ∷ others) ≤ most_bytes_together → NamesRows entries ((1, root) ∷ others) others → do_lead ((1, root) ∷ others) others ≡ true → IsTreeIndex entries next None
    by pass fit named leads =
        let is = tree_from_pass next others pass fits_next fit named.are_named leads in
        IsKept-from entries (record { rows = (1, root) ∷ others; next = next }) is named.same_rows (children_named entries next others is named)

-- ---- the rows of a tree pass

-- the first row of a tree is the root's
first_is_root : (next : ℕ) (first : ℕ × Node) (others : Nodes) → IsTree (record { rows = first ∷ others; next = next }) → first ≡ (1, root)
first_is_root next first others is =
    let one : 1 ≤ first.0 = (is.sound first.0 first.1 (lookup_here (nat_eq first.0) first others (eq-eqb first.0 first.0 refl))).above_zero in
    split (nat_eq 1 first.0)
    (λ t. ap₂ (λ (n : ℕ) (node : Node). (n, node)) (sym (eqb-true 1 first.0 t)) (same_Some _ _ (cond_at_true (nat_eq 1 first.0) _ _ _ t is.has_root)))
    (λ f. absurd (let lt : first.0 < 1 = above_found first.0 1 root others (rising_head first others is.rising) (cond_at_false (nat_eq 1 first.0) _ _ _ f is.has_root) in omega (arith, lt, one)))

-- each other row of a tree
each_other : (next : ℕ) (first : ℕ × Node) (others : Nodes) → IsTree (record { rows = first ∷ others; next = next }) → (P : ℕ → Node → Type 0) → ((number : ℕ) (node : Node) → node_at (first ∷ others) number ≡ Some node → number ≢ 1 → P number node) → AllByRecursion (λ row. P row.0 row.1) others
each_other next first others is P holds =
    let first_is = first_is_root next first others is in
    each_from_found P others (rising_tail first others is.rising)
    (λ number node e. holds number node (found_later first others is.rising number node e)
    (λ one. let lt : first.0 < number = above_found first.0 number node others (rising_head first others is.rising) e in
    let same : first.0 ≡ 1 = ap (λ (row : ℕ × Node). row.0) first_is in omega (arith, lt, same, one)))

pub sound_in_tree : (next : ℕ) (rows : Nodes) → IsTree (record { rows = rows; next = next }) → are_sound_rows next rows ≡ true
sound_in_tree next [] is = absurd (none-some _ is.has_root)
sound_in_tree next (first ∷ others) is =
    let first_is = first_is_root next first others is in
    let above : AreAbove 1 others = subst (λ (row : ℕ × Node). AreAbove row.0 others) first_is (rising_head first others is.rising) in
    let few : length others < most_nodes = (let fits = is.few in omega (arith, fits)) in
    and_from _ _ (and_from _ _ (ap is_root_row first_is) (lt-ltb 1 next (is.sound 1 root is.has_root).below_next))
    (and_from _ _ (and_from _ _ (lt-ltb (length others) most_nodes few) (test_from_rising 1 others above (rising_tail first others is.rising)))
    (test_from_each (is_sound_row next) others (each_other next first others is (λ number node. is_sound_row next (number, node) ≡ true)
    (λ number node e other. let sound = is.sound number node e in test_from_sound next number node (record { below_next = sound.below_next; named = sound.named other; empty = sound.empty; small = sound.small })))))

pub named_in_tree : (next : ℕ) (first : ℕ × Node) (others : Nodes) → IsTree (record { rows = first ∷ others; next = next }) → AreNamed (first ∷ others) others
named_in_tree next first others is =
    record {
      in_directories = each_other next first others is (λ number node. is_directory (node_at (first ∷ others) node.place.directory) ≡ true)
          (λ number node e other. let holder = holder_in_tree (record { rows = first ∷ others; next = next }) is number node e other in ap is_directory holder.found ∙ ap is_directory_kind holder.kind);
      places_differ = differ_tail first others is.places_differ;
    }

pub ways_in_tree : (next : ℕ) (first : ℕ × Node) (others : Nodes) → IsTree (record { rows = first ∷ others; next = next }) → do_lead (first ∷ others) others ≡ true
ways_in_tree next first others is =
    test_from_each (λ row. leads_below (length (first ∷ others)) (first ∷ others) row.0 row.1.place.directory) others
    (each_other next first others is (λ number node. leads_below (length (first ∷ others)) (first ∷ others) number node.place.directory ≡ true)
    (λ number node e other. leads_in_tree (record { rows = first ∷ others; next = next }) is number node e other))

-- ---- as the code has the rows

pub first_and_others : (listed : List TreeRow) (first : TreeRow) → 1 ≤ length listed → first ≡ get_or listed 0 first → listed ≡ first ∷ take (length listed - 1) (drop 1 listed)
first_and_others [] first some is = absurd (omega (arith, some))
first_and_others (row ∷ others) first some is =
    let same : length (row ∷ others) - 1 ≡ length others = omega arith in
    ap₂ (λ (r : TreeRow) (rs : List TreeRow). r ∷ rs) (sym is) (sym (ap (λ (n : ℕ). take n others) same ∙ take_all (length others) others (omega arith)))

pub rising_if_sound : (next : ℕ) (rows : Nodes) → are_sound_rows next rows ≡ true → AreRising rows
rising_if_sound next [] sound = absurd (false≢true sound)
rising_if_sound next (first ∷ others) sound =
    let pass = pass_from_test next first others sound in
    subst (λ (row : ℕ × Node). AreRising (row ∷ others)) (sym pass.0) (rising_cons (1, root) others pass.1.above pass.1.rising)

at_first : (old : Entries) (rows : List TreeRow) (first : TreeRow) (others : List TreeRow) → rows ≡ first ∷ others → ShowsRows old (map tree_row rows) → rows_of old ≡ tree_row first ∷ map tree_row others
at_first old rows first others e shows = shows.rows_shown ∙ ap (map tree_row) e

pub tree_made : (old new : Entries) (next : ℕ) (rows : List TreeRow) (first : TreeRow) (others : List TreeRow) → rows ≡ first ∷ others → are_sound_rows next (map tree_row rows) ≡ true → next ≤ last_number → contents_sum (map tree_row rows) ≤ most_bytes_together → ShowsRows old (map tree_row rows) → NamesRows new (rows_of old) (map tree_row others) → list_all (λ row. leads_below (length (rows_of new)) (rows_of new) row.number.0 row.parent) others ≡ true → IsTreeIndex new next None
tree_made old new next rows first others e sound fits_next fits shows names lead =
    let all = at_first old rows first others e shows in
    tree_of_rows new next (tree_row first) (map tree_row others)
    (ap (λ (rs : List TreeRow). are_sound_rows next (map tree_row rs)) (sym e) ∙ sound) fits_next
    (subst (λ (rs : List TreeRow). contents_sum (map tree_row rs) ≤ most_bytes_together) e fits)
    (subst (λ (rs : Nodes). NamesRows new rs (map tree_row others)) all names)
    (list_all-map (λ (row : ℕ × Node). leads_below (length (tree_row first ∷ map tree_row others)) (tree_row first ∷ map tree_row others) row.0 row.1.place.directory) tree_row others
    ∙ subst (λ (rs : Nodes). list_all (λ row. leads_below (length rs) rs row.number.0 row.parent) others ≡ true) (names.same_rows ∙ all) lead)

pub not_named : (old : Entries) (next : ℕ) (rows : List TreeRow) (first : TreeRow) (others : List TreeRow) → rows ≡ first ∷ others → ShowsRows old (map tree_row rows) → (AreNamed (rows_of old) (map tree_row others) → ⊥) → IsTree (record { rows = map tree_row rows; next = next }) → ⊥
not_named old next rows first others e shows refused is =
    refused (subst (λ (rs : Nodes). AreNamed rs (map tree_row others)) (sym (at_first old rows first others e shows))
    (named_in_tree next (tree_row first) (map tree_row others) (subst (λ (rs : List TreeRow). IsTree (record { rows = map tree_row rs; next = next })) e is)))

pub not_led : (old new : Entries) (next : ℕ) (rows : List TreeRow) (first : TreeRow) (others : List TreeRow) → rows ≡ first ∷ others → ShowsRows old (map tree_row rows) → NamesRows new (rows_of old) (map tree_row others) → list_all (λ row. leads_below (length (rows_of new)) (rows_of new) row.number.0 row.parent) others ≡ false → IsTree (record { rows = map tree_row rows; next = next }) → ⊥
not_led old new next rows first others e shows names lost is =
    let all = at_first old rows first others e shows in
    both_ways (list_all (λ row. leads_below (length (rows_of new)) (rows_of new) row.number.0 row.parent) others) lost
    (subst (λ (rs : Nodes). list_all (λ row. leads_below (length rs) rs row.number.0 row.parent) others ≡ true) (sym (names.same_rows ∙ all))
    (sym (list_all-map (λ (row : ℕ × Node). leads_below (length (tree_row first ∷ map tree_row others)) (tree_row first ∷ map tree_row others) row.0 row.1.place.directory) tree_row others)
    ∙ ways_in_tree next (tree_row first) (map tree_row others) (subst (λ (rs : List TreeRow). IsTree (record { rows = map tree_row rs; next = next })) e is)))

-- a refusal that is passed on
pub passed_refusal : {A : Type 0} (B : Type 0) (result : Result A RowsFault) (fault : RowsFault) (P Q : Type 0) → result ≡ Err fault → IfNotTree {Made = B} (Err fault) P → (P → Q) → IfNotTree result Q
passed_refusal {A} B result fault P Q e refused on = subst (λ (r : Result A RowsFault). IfNotTree r Q) (sym e) (by fault refused)
  where
    by : (f : RowsFault) → IfNotTree {Made = B} (Err f) P → IfNotTree {Made = A} (Err f) Q
    by NotTree h = on h
    by NoMemory h = tt

pub passed_fault : (tree : FileTree) (result : Result TreeView RowsFault) (fault : RowsFault) → result ≡ Err fault → (B : Type 0) → IfNotTree {Made = B} (Err fault) (IsTree tree → ⊥) → MakesTree tree result
passed_fault tree result fault e B refused = subst (MakesTree tree) (sym e) (by fault refused)
  where
    by : (f : RowsFault) → IfNotTree {Made = B} (Err f) (IsTree tree → ⊥) → MakesTree tree (Err f)
    by NotTree h = h
    by NoMemory h = tt
