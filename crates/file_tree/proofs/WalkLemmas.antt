-- One step of the walk to the root, and the names in a directory as tests see them.
use Rattle.std.proofs.Common.{◌≡◌, ◌≢◌, ℕ, zero, suc, ◌+◌, ◌-◌, ◌<◌, ◌≤◌, max, inl, inr, Bool, true, false, cond, not, Option, Some, None, List, [], ◌∷◌, length, refl, sym, ap, ◌∙◌, arith, nat_eq, nat_cmp}
use Rattle.std.specs.Prelude.{◌==◌}
use Rattle.std.specs.Map.{lookup}
use Rattle.std.specs.BTreeMap.{is_at}
use Rattle.std.specs.Cmp.Lexicographic.{slice_cmp}
use Rattle.std.proofs.lemmas.Bool.{cond-true, cond-false, false≢true, eq-eqb, ne_eqb, eqb-true, or_left, or_right, or_cases, false_from_ne_true}
use Rattle.std.proofs.lemmas.Option.{none-some, same_Some}
use Rattle.file_world.specs.Tree.{Place, Node, Nodes, FileTree, node_at, IsTree}
use Rattle.file_world.specs.TreeEffect.{is_directory, is_directory_kind, at, child_of, has_names, has_way_past, has_way_on, length_after}
use Rattle.file_world.proofs.RowLemmas.{split, cond_at_true, cond_at_false, lookup_here, lookup_later, above_found, AreRising, rising_head, rising_tail}
use Rattle.file_world.proofs.PlaceLemmas.{Stands}
use Rattle.file_tree.specs.declared.node.KeptNode.{KeptNode as Kept}
use Rattle.file_tree.specs.Index.{Entries, rows_of, kept_at, number_in, reserved_at, tree_in, IsTreeIndex}
use Rattle.file_tree.proofs.ChildLemmas.{stands_in, number_from, holder_of}
use Rattle.file_tree.proofs.IndexLemmas.{is_name_itself}

pub leads_step : (steps : ℕ) (rows : Nodes) (avoided number : ℕ) → 0 < steps → has_way_past steps rows avoided number ≡ cond (nat_eq number avoided) false (cond (nat_eq number 1) true (has_way_on (node_at rows number) (has_way_past (steps - 1) rows avoided)))
leads_step zero rows avoided number some = absurd (omega (arith, some))
leads_step (suc steps) rows avoided number some =
    let e : suc steps - 1 ≡ steps = omega arith in
    ap (λ (s : ℕ). cond (nat_eq number avoided) false (cond (nat_eq number 1) true (has_way_on (node_at rows number) (has_way_past s rows avoided)))) (sym e)

-- a step from a number that is neither the avoided one nor the root's
pub leads_further : (steps : ℕ) (rows : Nodes) (avoided number : ℕ) (found : Option Node) → 0 < steps → number ≢ avoided → number ≢ 1 → node_at rows number ≡ found → has_way_past steps rows avoided number ≡ has_way_on found (has_way_past (steps - 1) rows avoided)
leads_further steps rows avoided number found some apart below e =
    leads_step steps rows avoided number some
    ∙ (cond-false (nat_eq number avoided) _ _ (ne_eqb number avoided apart)
    ∙ (cond-false (nat_eq number 1) _ _ (ne_eqb number 1 below)
    ∙ ap (λ (n : Option Node). has_way_on n (has_way_past (steps - 1) rows avoided)) e))

pub length_after_le : (old offset len : ℕ) → length_after old offset len ≤ max (offset + len) old
length_after_le old offset len =
    split (len == 0)
    (λ t. let e : length_after old offset len ≡ old = cond-true (len == 0) old (max old (offset + len)) t in omega (arith, e))
    (λ f. let e : length_after old offset len ≡ max old (offset + len) = cond-false (len == 0) old (max old (offset + len)) f in omega (arith, e))

-- ---- names in a directory

-- a row with the number as its directory's
record IsChildOf (rows : Nodes) (directory : ℕ) : Type 0 where
  pub number : ℕ
  pub name : List ℕ
  pub stands : Stands rows number (at directory name)

some_child : (rows : Nodes) (directory : ℕ) → AreRising rows → has_names rows directory ≡ true → IsChildOf rows directory
some_child [] directory rising e = absurd (false≢true e)
some_child (row ∷ rows) directory rising e =
    split (row.1.place.directory == directory)
    (λ t. record {
      number = row.0;
      name = row.1.place.name;
      stands = record { node = row.1; found = lookup_here (nat_eq row.0) row rows (eq-eqb row.0 row.0 refl); there = ap (λ (d : ℕ). at d row.1.place.name) (eqb-true row.1.place.directory directory t) };
    })
    (λ f. let rest = some_child rows directory (rising_tail row rows rising) (elim (or_cases (row.1.place.directory == directory) (has_names rows directory) e) [ inl h ↦ absurd (false≢true (sym f ∙ h)) | inr h ↦ h ]) in
    let lt : row.0 < rest.number = above_found row.0 rest.number rest.stands.node rows (rising_head row rows rising) rest.stands.found in
    record {
      number = rest.number;
      name = rest.name;
      stands = record { node = rest.stands.node; found = lookup_later (nat_eq rest.number) row rows (ne_eqb rest.number row.0 (λ h. omega (arith, h, lt))) ∙ rest.stands.found; there = rest.stands.there };
    })

names_from_child : (rows : Nodes) (directory number : ℕ) (node : Node) → node_at rows number ≡ Some node → node.place.directory ≡ directory → has_names rows directory ≡ true
names_from_child [] directory number node e there = absurd (none-some _ e)
names_from_child (row ∷ rows) directory number node e there =
    split (nat_eq number row.0)
    (λ t. or_left (row.1.place.directory == directory) (has_names rows directory)
    (eq-eqb row.1.place.directory directory (ap (λ (n : Node). n.place.directory) (same_Some _ _ (cond_at_true (nat_eq number row.0) _ _ _ t e)) ∙ there)))
    (λ f. or_right (row.1.place.directory == directory) (has_names rows directory)
    (names_from_child rows directory number node (cond_at_false (nat_eq number row.0) _ _ _ f e) there))

-- a child in the tree is a name in its directory
pub names_child : (tree : FileTree) (directory : ℕ) → IsTree tree → 1 ≤ directory → has_names tree.rows directory ≡ true → (name : List ℕ) × (number : ℕ) × (child_of tree.rows directory name ≡ Some number)
names_child tree directory is above e =
    let child = some_child tree.rows directory is.rising e in
    let holder = holder_of tree directory child.number child.name is above child.stands in (
      child.name,
      child.number,
      cond-true (is_directory (node_at tree.rows directory)) _ _ (ap is_directory holder.1 ∙ ap is_directory_kind holder.2)
          ∙ number_from tree (at directory child.name) child.number is child.stands,
    )

pub names_from : (tree : FileTree) (directory : ℕ) (name : List ℕ) (number : ℕ) → IsTree tree → child_of tree.rows directory name ≡ Some number → has_names tree.rows directory ≡ true
names_from tree directory name number is e =
    split (is_directory (node_at tree.rows directory))
    (λ t. let s = stands_in tree (at directory name) number is (cond_at_true (is_directory (node_at tree.rows directory)) _ _ _ t e) in
    names_from_child tree.rows directory number s.node s.found (ap (λ (p : Place). p.directory) s.there))
    (λ f. absurd (none-some _ (cond_at_false (is_directory (node_at tree.rows directory)) _ _ _ f e)))

-- where nothing is kept under any name, there are no names
pub no_names : (entries : Entries) (next directory : ℕ) → IsTreeIndex entries next None → 1 ≤ directory → ((name : List ℕ) → reserved_at entries directory name ≡ None) → has_names (rows_of entries) directory ≡ false
no_names entries next directory kept above none =
    false_from_ne_true (has_names (rows_of entries) directory)
    (λ t. let child = names_child (tree_in None entries next) directory kept.tree above t in
    none-some _ (sym (none child.0) ∙ (kept.index directory child.0 ∙ child.2)))

pub no_names_missing : (entries : Entries) (next directory : ℕ) → IsTreeIndex entries next None → 1 ≤ directory → kept_at entries directory ≡ None → has_names (rows_of entries) directory ≡ false
no_names_missing entries next directory kept above missing = no_names entries next directory kept above (λ name. ap (λ (k : Option Kept). number_in k name) missing)

-- whether a directory keeps names is whether it has names
pub names_kept : (entries : Entries) (next directory : ℕ) (node : Kept) → IsTreeIndex entries next None → 1 ≤ directory → kept_at entries directory ≡ Some node → (empty : Bool) → (empty ≡ true → length node.names.entries ≡ 0) → (length node.names.entries ≡ 0 → empty ≡ true) → not empty ≡ has_names (rows_of entries) directory
names_kept entries next directory node kept above found empty there back = by node.names.entries refl
  where
    by : (names : List (List ℕ × ℕ)) → node.names.entries ≡ names → not empty ≡ has_names (rows_of entries) directory
    by [] h =
        ap not (back (ap length h))
        ∙ sym (no_names entries next directory kept above (λ name. ap (λ (k : Option Kept). number_in k name) found ∙ ap (λ (es : List (List ℕ × ℕ)). lookup (is_at (slice_cmp nat_cmp name)) es) h))
    by (first ∷ others) h =
        let some : empty ≡ false = false_from_ne_true empty (λ t. let z = sym (there t) ∙ ap length h in omega (arith, z)) in
        let here : reserved_at entries directory first.0 ≡ Some first.1 =
        ap (λ (k : Option Kept). number_in k first.0) found
        ∙ (ap (λ (es : List (List ℕ × ℕ)). lookup (is_at (slice_cmp nat_cmp first.0)) es) h
        ∙ cond-true (is_at (slice_cmp nat_cmp first.0) first.0) _ _ (is_name_itself first.0)) in
        ap not some ∙ sym (names_from (tree_in None entries next) directory first.0 first.1 kept.tree (sym (kept.index directory first.0) ∙ here))
