-- The names that a directory keeps, as the list of its names.
use Rattle.std.proofs.Common.{◌≡◌, ℕ, true, Option, Some, None, map, sym, ap, ◌∙◌, nat_cmp}
use Rattle.std.specs.List.Sorted.{IsStrictlySortedBy}
use Rattle.std.specs.Map.{keys_of}
use Rattle.std.specs.Cmp.Lexicographic.{slice_cmp}
use Rattle.std.proofs.lemmas.Bool.{cond-true, false≢true}
use Rattle.file_world.specs.Tree.{Nodes, node_at, number_at}
use Rattle.file_world.specs.TreeEffect.{is_directory, at, names_in}
use Rattle.file_world.proofs.ListingLemmas.{pairs_of, same_pairs, names_found, names_sorted, names_again}
use Rattle.file_tree.specs.declared.node.KeptNode.{KeptNode as Kept}
use Rattle.file_tree.specs.Index.{Entries, rows_of, kept_at, number_in, named_node, IsTreeIndex}
use Rattle.file_tree.proofs.IndexLemmas.{node_at-missing}

pub listed_names : (entries : Entries) (next directory : ℕ) (node : Kept) → IsTreeIndex entries next None → is_directory (node_at (rows_of entries) directory) ≡ true → kept_at entries directory ≡ Some node → IsStrictlySortedBy (slice_cmp nat_cmp) (keys_of node.names.entries) → map named_node node.names.entries ≡ names_in (rows_of entries) directory
listed_names entries next directory node kept holds found sorted =
    let rows : Nodes = rows_of entries in
    let same : node.names.entries ≡ pairs_of (names_in rows directory) =
    same_pairs node.names.entries (pairs_of (names_in rows directory)) sorted (names_sorted rows directory kept.tree.places_differ)
    (λ name. sym (ap (λ (k : Option Kept). number_in k name) found)
    ∙ (kept.index directory name
    ∙ (cond-true (is_directory (node_at rows directory)) (number_at rows (at directory name)) None holds
    ∙ sym (names_found rows directory kept.tree.places_differ name)))) in
    ap (map named_node) same ∙ names_again (names_in rows directory)

pub no_listed_names : {A : Type 0} (entries : Entries) (directory : ℕ) → is_directory (node_at (rows_of entries) directory) ≡ true → kept_at entries directory ≡ None → A
no_listed_names entries directory holds missing = absurd (false≢true (sym (ap is_directory (node_at-missing entries directory missing)) ∙ holds))
