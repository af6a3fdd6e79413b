-- The tree of the root alone, and the children of any tree as the code finds them.
use Rattle.std.proofs.Common.{◌≡◌, ℕ, ◌<◌, ◌≤◌, inl, inr, cond, Option, Some, None, List, [], ◌∷◌, length, refl, sym, ap, ◌∙◌, arith, nat_eq, nat_cmp, nat_le, le-leb}
use Rattle.std.specs.Prelude.{◌==◌}
use Rattle.std.specs.Map.{lookup}
use Rattle.std.specs.BTreeMap.{is_at}
use Rattle.std.specs.Cmp.Lexicographic.{slice_cmp}
use Rattle.std.proofs.lemmas.Bool.{cond-true, cond-false, ne_eqb, eqb-true, cases_lt, lt-leb}
use Rattle.file_world.specs.Tree.{Place, Node, FileTree, node_at, is_place, contents_sum, root}
use Rattle.file_world.specs.TreeEffect.{is_directory, at, child_of, fresh_tree}
use Rattle.file_world.proofs.RowLemmas.{split}
use Rattle.file_world.proofs.PlaceLemmas.{is_place-true}
use Rattle.file_world.proofs.TreeLemmas.{IsTree-fresh}
use Rattle.file_tree.specs.declared.node.KeptNode.{KeptNode as Kept}
use Rattle.file_tree.specs.declared.ready.Spot.{Spot}
use Rattle.file_tree.specs.declared.ready.Ready.{Ready}
use Rattle.file_tree.specs.Index.{Entries, node_shown, rows_of, number_in, reserved_at, spot_place, reserved_spot, published_nodes, expected_number, tree_in, IsReservedFree, IsTreeIndex, above_zero}
use Rattle.file_tree.proofs.KeptLemmas.{IsKept-from, child_short, child_above_zero}

no_child : (directory : ℕ) (name : List ℕ) → child_of fresh_tree.rows directory name ≡ None
no_child directory name =
    split (nat_eq directory 1)
    (λ t. ap (λ (d : ℕ). child_of fresh_tree.rows d name) (eqb-true directory 1 t))
    (λ f. cond-false (is_directory (node_at fresh_tree.rows directory)) _ _ (ap is_directory (cond-false (nat_eq directory 1) (Some root) None f)))

none_held : (kept : Kept) → kept.names.entries ≡ [] → (directory : ℕ) (name : List ℕ) → reserved_at ((1, kept) ∷ []) directory name ≡ None
none_held kept none directory name =
    split (is_at (nat_cmp directory) 1)
    (λ t. ap (λ (k : Option Kept). number_in k name) (cond-true (is_at (nat_cmp directory) 1) (Some kept) None t)
    ∙ ap (λ (es : List (List ℕ × ℕ)). lookup (is_at (slice_cmp nat_cmp name)) es) none)
    (λ f. ap (λ (k : Option Kept). number_in k name) (cond-false (is_at (nat_cmp directory) 1) (Some kept) None f))

pub fresh_kept : (entries : Entries) (kept : Kept) → entries ≡ (1, kept) ∷ [] → node_shown kept ≡ root → kept.names.entries ≡ [] → IsTreeIndex entries 2 None × (0 ≡ contents_sum (rows_of entries))
fresh_kept entries kept e shows none =
    let rows : rows_of entries ≡ fresh_tree.rows = ap rows_of e ∙ ap (λ (n : Node). (1, n) ∷ []) shows in (
      IsKept-from entries fresh_tree IsTree-fresh rows
          (λ directory name. ap (λ (es : Entries). reserved_at es directory name) e ∙ (none_held kept none directory name ∙ sym (no_child directory name))),
      ap contents_sum (sym rows),
    )

-- ---- the children of any tree

above_same : (found : Option ℕ) → ((number : ℕ) → found ≡ Some number → 1 ≤ number) → above_zero found ≡ found
above_same None above = refl
above_same (Some number) above = cond-false (number == 0) _ _ (ne_eqb number 0 (λ h. let one = above number refl in omega (arith, h, one)))

-- a child as the code finds it, whatever is ready
pub child_any : (entries : Entries) (next : ℕ) (ready : Option Ready) (directory : ℕ) (name : List ℕ) → IsTreeIndex entries next ready → above_zero (cond (nat_le (length name) 64) (reserved_at entries directory name) None) ≡ child_of (rows_of (published_nodes ready entries)) directory name
child_any entries next ready directory name kept =
    let tree : FileTree = tree_in ready entries next in
    let same : above_zero (child_of tree.rows directory name) ≡ child_of tree.rows directory name = above_same (child_of tree.rows directory name) (λ number e. child_above_zero tree directory name number kept.tree e) in
    elim (cases_lt 64 (length name)) [
      | inl long ↦ ap above_zero (cond-false (nat_le (length name) 64) (reserved_at entries directory name) None (lt-leb (length name) 64 long))
          ∙ none_for_long (child_of tree.rows directory name) refl long
      | inr short ↦ ap above_zero (cond-true (nat_le (length name) 64) (reserved_at entries directory name) None (le-leb (length name) 64 short) ∙ kept.index directory name)
          ∙ by (reserved_spot ready) kept.free same
    ]
  where
    none_for_long : (found : Option ℕ) → child_of (rows_of (published_nodes ready entries)) directory name ≡ found → 64 < length name → None ≡ child_of (rows_of (published_nodes ready entries)) directory name
    none_for_long None h long = sym h
    none_for_long (Some number) h long = absurd (let short = child_short (tree_in ready entries next) directory name number kept.tree h in omega (arith, short, long))

    by : (held : Option Spot) → IsReservedFree held (rows_of (published_nodes ready entries)) → above_zero (child_of (rows_of (published_nodes ready entries)) directory name) ≡ child_of (rows_of (published_nodes ready entries)) directory name → above_zero (expected_number held (rows_of (published_nodes ready entries)) directory name) ≡ child_of (rows_of (published_nodes ready entries)) directory name
    by None free s = s
    by (Some spot) free s =
        split (is_place (spot_place spot) (at directory name))
        (λ t. ap above_zero (cond-true (is_place (spot_place spot) (at directory name)) (Some 0) (child_of (rows_of (published_nodes ready entries)) directory name) t)
        ∙ (sym free ∙ ap (λ (p : Place). child_of (rows_of (published_nodes ready entries)) p.directory p.name) (is_place-true (spot_place spot) (at directory name) t)))
        (λ f. ap above_zero (cond-false (is_place (spot_place spot) (at directory name)) (Some 0) (child_of (rows_of (published_nodes ready entries)) directory name) f) ∙ s)
