-- What is kept, and what it is ready for, after each step of the code.
use Rattle.std.proofs.Common.{◌≡◌, ℕ, ◌-◌, ◌<◌, ◌≤◌, inl, inr, true, cond, IsSome, Option, Some, None, List, [], ◌∷◌, ◌++◌, length, take, refl, sym, ap, ◌∙◌, subst, arith, nat_le, nat_cmp, is_some, le-leb, leb-true}
use Rattle.std.specs.Map.{lookup, remove_entry}
use Rattle.std.specs.BTreeMap.{is_at}
use Rattle.std.specs.Cmp.Lexicographic.{slice_cmp}
use Rattle.file_world.specs.declared.operation.Kind.{Kind}
use Rattle.std.proofs.lemmas.Bool.{cond-true, cond-false, eq-eqb, and_parts, cases_eq, cases_lt, lt-leb}
use Rattle.std.proofs.lemmas.Option.{none-some, same_Some}
use Rattle.file_world.specs.FileNames.{is_node_name}
use Rattle.file_world.specs.Tree.{Place, Node, Nodes, FileTree, node_at, is_place, contents_sum, root, IsTree}
use Rattle.file_world.specs.TreeEffect.{is_directory, at, child_of, new_node, contents_of}
use Rattle.file_world.proofs.RowLemmas.{split, cond_at_true, cond_at_false, weight-le-sum_by}
use Rattle.file_world.proofs.PlaceLemmas.{is_place-true}
use Rattle.file_tree.specs.declared.node.KeptNode.{KeptNode as Kept}
use Rattle.file_tree.specs.declared.ready.Spot.{Spot}
use Rattle.file_tree.specs.declared.ready.Ready.TheVariants.{Nothing, Contents, Made, Gone, Moved}
use Rattle.file_tree.specs.Index.{Entries, node_shown, rows_of, kept_at, number_in, reserved_at, spot_place, expected_number, tree_in, HasContentsRoom, IsTreeIndex, Puts, ChangesRoomAlone, AreNumbersBelow, AddsLast, Prepares, Stays}
use Rattle.file_tree.proofs.IndexLemmas.{same_test, node_at-kept, node_at-missing, kept_at-append, kept_at-last, take-append_one}
use Rattle.file_tree.proofs.ChildLemmas.{stands_in}

-- ---- the tree that is kept while nothing is ready

pub kept_there : (entries : Entries) (number : ℕ) (node : Node) → node_at (rows_of entries) number ≡ Some node → (kept : Kept) × (kept_at entries number ≡ Some kept) × (node_shown kept ≡ node)
kept_there entries number node e = by (kept_at entries number) refl
  where
    by : (was : Option Kept) → kept_at entries number ≡ was → (kept : Kept) × (kept_at entries number ≡ Some kept) × (node_shown kept ≡ node)
    by None h = absurd (none-some _ (sym (node_at-missing entries number h) ∙ e))
    by (Some kept) h = (kept, h, same_Some _ _ (sym (node_at-kept entries number kept h) ∙ e))

pub some_kept : (entries : Entries) (number : ℕ) (node : Node) → node_at (rows_of entries) number ≡ Some node → IsSome (kept_at entries number)
some_kept entries number node e = ap is_some (kept_there entries number node e).1

pub below_next_kept : (entries : Entries) (next : ℕ) → IsTree (tree_in None entries next) → AreNumbersBelow entries next
below_next_kept entries next is number kept e = (is.sound number (node_shown kept) (node_at-kept entries number kept e)).below_next

-- nothing is ready, and the rows and names are those of the tree
pub IsKept-from : (new : Entries) (tree : FileTree) → IsTree tree → rows_of new ≡ tree.rows → ((directory : ℕ) (name : List ℕ) → reserved_at new directory name ≡ child_of tree.rows directory name) → IsTreeIndex new tree.next None
IsKept-from new tree is rows held =
    record {
      tree = subst (λ (r : Nodes). IsTree (record { rows = r; next = tree.next })) (sym rows) is;
      index = λ directory name. held directory name ∙ ap (λ (r : Nodes). child_of r directory name) (sym rows);
      free = tt;
      prepared = tt;
    }

-- ---- names

name_length : (name : List ℕ) → is_node_name name ≡ true → length name ≤ 64
unfolding is_node_name
name_length name e =
    let a = and_parts _ _ e in
    let b = and_parts _ _ a.0 in
    let d = and_parts _ _ b.0 in
    leb-true (length name) 64 (and_parts _ _ d.0).1

pub short_name : (name : List ℕ) → is_node_name name ≡ true → length name ≤ 64
short_name name e = name_length name e

-- the name of a child is short
pub child_short : (tree : FileTree) (directory : ℕ) (name : List ℕ) (number : ℕ) → IsTree tree → child_of tree.rows directory name ≡ Some number → length name ≤ 64
child_short tree directory name number is e =
    split (is_directory (node_at tree.rows directory))
    (λ t. let s = stands_in tree (at directory name) number is (cond_at_true (is_directory (node_at tree.rows directory)) _ _ _ t e) in
    let same : s.node.place.name ≡ name = ap (λ (p : Place). p.name) s.there in
    elim (cases_eq number 1) [
      | inl one ↦ let root_is : root ≡ s.node = same_Some _ _ (sym is.has_root ∙ (ap (node_at tree.rows) (sym one) ∙ s.found)) in
          let none : [] ≡ name = ap (λ (n : Node). n.place.name) root_is ∙ same in
          let len : 0 ≡ length name = ap length none in omega (arith, len)
      | inr other ↦ short_name name (subst (λ (n : List ℕ). is_node_name n ≡ true) same ((is.sound number s.node s.found).named other))
    ])
    (λ f. absurd (none-some _ (cond_at_false (is_directory (node_at tree.rows directory)) _ _ _ f e)))

pub child_found : (entries : Entries) (next directory : ℕ) (name : List ℕ) → IsTreeIndex entries next None → cond (nat_le (length name) 64) (reserved_at entries directory name) None ≡ child_of (rows_of entries) directory name
child_found entries next directory name kept =
    elim (cases_lt 64 (length name)) [
      | inl long ↦ cond-false (nat_le (length name) 64) _ _ (lt-leb (length name) 64 long) ∙ none_for_long (child_of (rows_of entries) directory name) refl long
      | inr short ↦ cond-true (nat_le (length name) 64) _ _ (le-leb (length name) 64 short) ∙ kept.index directory name
    ]
  where
    none_for_long : (found : Option ℕ) → child_of (rows_of entries) directory name ≡ found → 64 < length name → None ≡ child_of (rows_of entries) directory name
    none_for_long None h long = sym h
    none_for_long (Some number) h long = absurd (let short = child_short (tree_in None entries next) directory name number kept.tree h in omega (arith, short, long))

-- a child's number is no root's directory
pub child_above_zero : (tree : FileTree) (directory : ℕ) (name : List ℕ) (number : ℕ) → IsTree tree → child_of tree.rows directory name ≡ Some number → 1 ≤ number
child_above_zero tree directory name number is e =
    split (is_directory (node_at tree.rows directory))
    (λ t. let s = stands_in tree (at directory name) number is (cond_at_true (is_directory (node_at tree.rows directory)) _ _ _ t e) in (is.sound number s.node s.found).above_zero)
    (λ f. absurd (none-some _ (cond_at_false (is_directory (node_at tree.rows directory)) _ _ _ f e)))

-- ---- lengths

pub length_in_sum : (rows : Nodes) (number : ℕ) → length (contents_of (node_at rows number)) ≤ contents_sum rows
length_in_sum rows number = by (node_at rows number) refl
  where
    by : (found : Option Node) → node_at rows number ≡ found → length (contents_of (node_at rows number)) ≤ contents_sum rows
    by None h = subst (λ (n : Option Node). length (contents_of n) ≤ contents_sum rows) (sym h) (omega arith)
    by (Some node) h = subst (λ (n : Option Node). length (contents_of n) ≤ contents_sum rows) (sym h) (weight-le-sum_by (λ row. length row.1.contents) number node rows h)

-- ---- what is prepared

pub Stays-from_ChangesRoomAlone : (old new : Entries) (next : ℕ) → IsTreeIndex old next None → ChangesRoomAlone old new → Stays old new next
Stays-from_ChangesRoomAlone old new next kept keeps =
    record {
      kept = IsKept-from new (tree_in None old next) kept.tree keeps.same_rows (λ directory name. keeps.same_held directory name ∙ kept.index directory name);
      same_rows = keeps.same_rows;
    }

pub Prepares-contents : (old new : Entries) (next number len : ℕ) → IsTreeIndex old next None → ChangesRoomAlone old new → HasContentsRoom new number len → Prepares old new next (Contents number len)
Prepares-contents old new next number len kept keeps room =
    let stays = Stays-from_ChangesRoomAlone old new next kept keeps in
    record {
      kept = record { tree = stays.kept.tree; index = stays.kept.index; free = tt; prepared = room };
      same_rows = keeps.same_rows;
    }

-- one name is held
expected-put : (old new : Entries) (next : ℕ) (spot : Spot) → IsTreeIndex old next None → Puts old new (spot_place spot) (Some 0) → (directory : ℕ) (name : List ℕ) → reserved_at new directory name ≡ expected_number (Some spot) (rows_of old) directory name
expected-put old new next spot kept puts directory name =
    split (is_place (spot_place spot) (at directory name))
    (λ t. let same = is_place-true (spot_place spot) (at directory name) t in
    ap (λ (p : Place). reserved_at new p.directory p.name) (sym same) ∙ (puts.here ∙ sym (cond-true (is_place (spot_place spot) (at directory name)) _ _ t)))
    (λ f. puts.elsewhere directory name f ∙ (kept.index directory name ∙ sym (cond-false (is_place (spot_place spot) (at directory name)) _ _ f)))

pub Prepares-moved : (old new : Entries) (next number : ℕ) (from to : Spot) → IsTreeIndex old next None → Puts old new (spot_place to) (Some 0) → child_of (rows_of old) to.directory to.name ≡ None → Prepares old new next (Moved number from to)
Prepares-moved old new next number from to kept puts free =
    record {
      kept = record {
        tree = subst (λ (r : Nodes). IsTree (record { rows = r; next = next })) (sym puts.same_rows) kept.tree;
        index = λ directory name. expected-put old new next to kept puts directory name ∙ ap (λ (r : Nodes). expected_number (Some to) r directory name) (sym puts.same_rows);
        free = ap (λ (r : Nodes). child_of r to.directory to.name) puts.same_rows ∙ free;
        prepared = tt;
      };
      same_rows = puts.same_rows;
    }

-- one more node without names at the end leaves all names
held-append : (entries : Entries) (next : ℕ) (kept : Kept) → kept_at entries next ≡ None → kept.names.entries ≡ [] → (directory : ℕ) (name : List ℕ) → reserved_at (entries ++ (next, kept) ∷ []) directory name ≡ reserved_at entries directory name
held-append entries next kept missing none directory name =
    elim (cases_eq directory next) [
      | inl e ↦ ap (λ (d : ℕ). reserved_at (entries ++ (next, kept) ∷ []) d name) e
          ∙ (ap (λ (k : Option Kept). number_in k name) (kept_at-last entries next kept missing)
          ∙ (ap (λ (es : List (List ℕ × ℕ)). lookup (is_at (slice_cmp nat_cmp name)) es) none
          ∙ (sym (ap (λ (k : Option Kept). number_in k name) missing) ∙ ap (λ (d : ℕ). reserved_at entries d name) (sym e))))
      | inr other ↦ ap (λ (k : Option Kept). number_in k name) (kept_at-append entries next kept directory other)
    ]

missing_next : (entries : Entries) (next : ℕ) → AreNumbersBelow entries next → kept_at entries next ≡ None
missing_next entries next below = by (kept_at entries next) refl
  where
    by : (was : Option Kept) → kept_at entries next ≡ was → kept_at entries next ≡ None
    by None h = h
    by (Some kept) h = absurd (let lt : next < next = below next kept h in omega (arith, lt))

pub below_after_put : (old mid : Entries) (next : ℕ) (place : Place) (number : Option ℕ) → IsTreeIndex old next None → Puts old mid place number → AreNumbersBelow mid next
below_after_put old mid next place number kept puts =
    below_next_kept mid next (subst (λ (r : Nodes). IsTree (record { rows = r; next = next })) (sym puts.same_rows) kept.tree)

pub Prepares-made : (old mid new : Entries) (next : ℕ) (kind : Kind) (spot : Spot) → IsTreeIndex old next None → Puts old mid (spot_place spot) (Some 0) → AddsLast mid new next (new_node kind (spot_place spot)) → child_of (rows_of old) spot.directory spot.name ≡ None → Prepares old new next (Made kind spot)
Prepares-made old mid new next kind spot kept puts adds free =
    let below = below_after_put old mid next (spot_place spot) (Some 0) kept puts in
    let settled_is : take (length new - 1) new ≡ mid = ap (λ (es : Entries). take (length es - 1) es) adds.last ∙ take-append_one mid (next, adds.kept) in
    let rows : rows_of (take (length new - 1) new) ≡ rows_of old = ap rows_of settled_is ∙ puts.same_rows in
    record {
      kept = record {
        tree = subst (λ (r : Nodes). IsTree (record { rows = r; next = next })) (sym rows) kept.tree;
        index = λ directory name.
            ap (λ (es : Entries). reserved_at es directory name) adds.last
            ∙ (held-append mid next adds.kept (missing_next mid next below) adds.no_names directory name
            ∙ (expected-put old mid next spot kept puts directory name ∙ ap (λ (r : Nodes). expected_number (Some spot) r directory name) (sym rows)));
        free = ap (λ (r : Nodes). child_of r spot.directory spot.name) rows ∙ free;
        prepared = record { before = mid; kept = adds.kept; last = adds.last; new = adds.shows; no_names = adds.no_names };
      };
      same_rows = rows;
    }

-- a name that was held is given up
released : (mid new : Entries) (tree : FileTree) (spot : Spot) → IsTree tree → rows_of mid ≡ tree.rows → ((directory : ℕ) (name : List ℕ) → reserved_at mid directory name ≡ expected_number (Some spot) tree.rows directory name) → child_of tree.rows spot.directory spot.name ≡ None → Puts mid new (spot_place spot) None → IsTreeIndex new tree.next None × (rows_of new ≡ tree.rows)
released mid new tree spot is rows held free puts =
    let same : rows_of new ≡ tree.rows = puts.same_rows ∙ rows in (
      IsKept-from new tree is same
          (λ directory name.
          split (is_place (spot_place spot) (at directory name))
          (λ t. let e = is_place-true (spot_place spot) (at directory name) t in
          ap (λ (p : Place). reserved_at new p.directory p.name) (sym e) ∙ (puts.here ∙ (sym free ∙ ap (λ (p : Place). child_of tree.rows p.directory p.name) e)))
          (λ f. puts.elsewhere directory name f ∙ (held directory name ∙ cond-false (is_place (spot_place spot) (at directory name)) _ _ f))),
      same,
    )

pub Stays-released : (old mid same new : Entries) (next : ℕ) (spot : Spot) → IsTreeIndex old next None → Puts old mid (spot_place spot) (Some 0) → same ≡ mid → Puts same new (spot_place spot) None → child_of (rows_of old) spot.directory spot.name ≡ None → Stays old new next
Stays-released old mid same new next spot kept puts e gone free =
    let r = released mid new (tree_in None old next) spot kept.tree puts.same_rows (expected-put old mid next spot kept puts) free (subst (λ (es : Entries). Puts es new (spot_place spot) None) e gone) in
    record { kept = r.0; same_rows = r.1 }

pub forgets_moved : (old new : Entries) (next number : ℕ) (from to : Spot) → IsTreeIndex old next (Some (Moved number from to)) → Puts old new (spot_place to) None → IsTreeIndex new next None × (rows_of new ≡ rows_of old)
forgets_moved old new next number from to kept puts = released old new (tree_in None old next) to kept.tree refl kept.index kept.free puts

removed_last : (before : Entries) (next : ℕ) (kept : Kept) → kept_at before next ≡ None → remove_entry (is_at (nat_cmp next)) (before ++ (next, kept) ∷ []) ≡ before
removed_last [] next kept missing = cond-true (is_at (nat_cmp next) next) _ _ (same_test next next ∙ eq-eqb next next refl)
removed_last (entry ∷ before) next kept missing =
    split (is_at (nat_cmp next) entry.0)
    (λ t. absurd (none-some _ (sym (cond_at_true (is_at (nat_cmp next) entry.0) _ _ _ t missing))))
    (λ f. cond-false (is_at (nat_cmp next) entry.0) _ _ f ∙ ap (λ (rest : Entries). entry ∷ rest) (removed_last before next kept (cond_at_false (is_at (nat_cmp next) entry.0) _ _ _ f missing)))

pub forgets_made : (old mid new : Entries) (next : ℕ) (kind : Kind) (spot : Spot) → IsTreeIndex old next (Some (Made kind spot)) → mid ≡ remove_entry (is_at (nat_cmp next)) old → Puts mid new (spot_place spot) None → IsTreeIndex new next None × (rows_of new ≡ rows_of (take (length old - 1) old))
forgets_made old mid new next kind spot kept e puts =
    let last = kept.prepared in
    let settled_is : take (length old - 1) old ≡ last.before = ap (λ (es : Entries). take (length es - 1) es) last.last ∙ take-append_one last.before (next, last.kept) in
    let is : IsTree (tree_in None last.before next) = subst (λ (es : Entries). IsTree (tree_in None es next)) settled_is kept.tree in
    let missing = missing_next last.before next (below_next_kept last.before next is) in
    let mid_is : mid ≡ last.before = e ∙ (ap (remove_entry (is_at (nat_cmp next))) last.last ∙ removed_last last.before next last.kept missing) in
    let r = released last.before new (tree_in None last.before next) spot is refl
    (λ directory name.
    sym (held-append last.before next last.kept missing last.no_names directory name)
    ∙ (ap (λ (es : Entries). reserved_at es directory name) (sym last.last)
    ∙ (kept.index directory name ∙ ap (λ (es : Entries). expected_number (Some spot) (rows_of es) directory name) settled_is)))
    (ap (λ (es : Entries). child_of (rows_of es) spot.directory spot.name) (sym settled_is) ∙ kept.free)
    (subst (λ (es : Entries). Puts es new (spot_place spot) None) mid_is puts) in
    (r.0, r.1 ∙ ap rows_of (sym settled_is))

pub forgets_nothing : (entries : Entries) (next : ℕ) → IsTreeIndex entries next (Some Nothing) → IsTreeIndex entries next None
forgets_nothing entries next kept = record { tree = kept.tree; index = kept.index; free = tt; prepared = tt }

pub forgets_contents : (entries : Entries) (next number len : ℕ) → IsTreeIndex entries next (Some (Contents number len)) → IsTreeIndex entries next None
forgets_contents entries next number len kept = record { tree = kept.tree; index = kept.index; free = tt; prepared = tt }

pub forgets_gone : (entries : Entries) (next number : ℕ) (spot : Spot) → IsTreeIndex entries next (Some (Gone number spot)) → IsTreeIndex entries next None
forgets_gone entries next number spot kept = record { tree = kept.tree; index = kept.index; free = tt; prepared = tt }

-- what is ready without a name or a room of its own
pub Prepares-nothing : (entries : Entries) (next : ℕ) → IsTreeIndex entries next None → Prepares entries entries next Nothing
Prepares-nothing entries next kept = record { kept = record { tree = kept.tree; index = kept.index; free = tt; prepared = tt }; same_rows = refl }

pub Prepares-gone : (entries : Entries) (next number : ℕ) (spot : Spot) → IsTreeIndex entries next None → Prepares entries entries next (Gone number spot)
Prepares-gone entries next number spot kept = record { kept = record { tree = kept.tree; index = kept.index; free = tt; prepared = tt }; same_rows = refl }
