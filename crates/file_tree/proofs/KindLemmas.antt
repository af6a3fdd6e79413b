-- The kind of a node as the code finds it, whatever is ready.
use Rattle.std.proofs.Common.{◌≡◌, ◌-◌, ◌<◌, ◌≤◌, ℕ, cond, nat_eq, nat_lt, [], ◌∷◌, ◌++◌, length, take, Option, Some, None, refl, sym, ap, ◌∙◌, arith}
use Rattle.std.proofs.lemmas.Bool.{cond-false, ne_eqb, le-ltb}
use Rattle.file_world.specs.Tree.{Node, Nodes, FileTree, node_at, IsTree}
use Rattle.file_world.specs.TreeEffect.{is_directory}
use Rattle.file_tree.specs.declared.ready.Ready.{Ready}
use Rattle.file_tree.specs.declared.ready.Ready.TheVariants.{Nothing, Contents, Made, Gone, Moved}
use Rattle.file_tree.specs.Index.{Entries, node_shown, rows_of, published_nodes, tree_in, IsPrepared, IsTreeIndex}
use Rattle.file_tree.proofs.IndexLemmas.{rows-append, take-append_one}

other_than_last : (rows : Nodes) (next : ℕ) (last : Node) (number : ℕ) → number < next → node_at (rows ++ (next, last) ∷ []) number ≡ node_at rows number
other_than_last [] next last number below = cond-false (nat_eq number next) (Some last) None (ne_eqb number next (λ h. omega (arith, h, below)))
other_than_last (row ∷ rows) next last number below = ap (λ (rest : Option Node). cond (nat_eq number row.0) (Some row.1) rest) (other_than_last rows next last number below)

kept_as_published : (entries : Entries) (next : ℕ) (ready : Option Ready) (number : ℕ) → IsPrepared ready entries next → number < next → node_at (rows_of entries) number ≡ node_at (rows_of (published_nodes ready entries)) number
kept_as_published entries next None number prepared below = refl
kept_as_published entries next (Some Nothing) number prepared below = refl
kept_as_published entries next (Some (Contents file len)) number prepared below = refl
kept_as_published entries next (Some (Made kind spot)) number prepared below =
    let published : take (length entries - 1) entries ≡ prepared.before =
    ap (λ (es : Entries). take (length es - 1) es) prepared.last ∙ take-append_one prepared.before (next, prepared.kept) in
    ap (λ (es : Entries). node_at (rows_of es) number) prepared.last
    ∙ ap (λ (rows : Nodes). node_at rows number) (rows-append prepared.before next prepared.kept)
    ∙ other_than_last (rows_of prepared.before) next (node_shown prepared.kept) number below
    ∙ ap (λ (es : Entries). node_at (rows_of es) number) (sym published)
kept_as_published entries next (Some (Gone file spot)) number prepared below = refl
kept_as_published entries next (Some (Moved file from to)) number prepared below = refl

none_from_next : (tree : FileTree) (number : ℕ) → IsTree tree → tree.next ≤ number → (found : Option Node) → node_at tree.rows number ≡ found → is_directory found ≡ is_directory None
none_from_next tree number is above None e = refl
none_from_next tree number is above (Some node) e = absurd (let below = (is.sound number node e).below_next in omega (arith, above, below))

pub kind_below : (entries : Entries) (next : ℕ) (ready : Option Ready) (number : ℕ) → IsTreeIndex entries next ready → number < next → is_directory (node_at (rows_of entries) number) ≡ is_directory (node_at (rows_of (published_nodes ready entries)) number)
kind_below entries next ready number kept below = ap is_directory (kept_as_published entries next ready number kept.prepared below)

pub kind_above : (entries : Entries) (next : ℕ) (ready : Option Ready) (number : ℕ) → IsTreeIndex entries next ready → next ≤ number → nat_lt number next ≡ is_directory (node_at (rows_of (published_nodes ready entries)) number)
kind_above entries next ready number kept above =
    le-ltb number next above
    ∙ sym (none_from_next (tree_in ready entries next) number kept.tree above (node_at (rows_of (published_nodes ready entries)) number) refl)
