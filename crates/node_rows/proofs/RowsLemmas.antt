-- Rows of the same nodes, as they come one after the other.
use Rattle.std.proofs.Common.{◌≡◌, List, [], ◌∷◌, ◌++◌, refl, ap}
use Rattle.node_rows.specs.declared.rows.TreeRow.{TreeRow}
use Rattle.node_rows.specs.declared.rows.MetaRow.{MetaRow}
use Rattle.node_rows.specs.Rows.{item_row, item_rows, AreOfSameNodes}

-- one more node
pub item_rows-more : (trees : List TreeRow) (metas : List MetaRow) (tree : TreeRow) (meta : MetaRow) → AreOfSameNodes trees metas → item_rows (trees ++ tree ∷ []) (metas ++ meta ∷ []) ≡ item_rows trees metas ++ item_row tree meta ∷ []
item_rows-more [] [] tree meta same = refl
item_rows-more [] (m ∷ metas) tree meta same = absurd same
item_rows-more (t ∷ trees) [] tree meta same = absurd same
item_rows-more (t ∷ trees) (m ∷ metas) tree meta same = ap (λ rows. item_row t m ∷ rows) (item_rows-more trees metas tree meta same.1.1)

pub same_nodes-more : (trees : List TreeRow) (metas : List MetaRow) (tree : TreeRow) (meta : MetaRow) → AreOfSameNodes trees metas → tree.number ≡ meta.number → tree.parent ≡ meta.parent → AreOfSameNodes (trees ++ tree ∷ []) (metas ++ meta ∷ [])
same_nodes-more [] [] tree meta same number parent = (number, (parent, tt))
same_nodes-more [] (m ∷ metas) tree meta same number parent = absurd same
same_nodes-more (t ∷ trees) [] tree meta same number parent = absurd same
same_nodes-more (t ∷ trees) (m ∷ metas) tree meta same number parent = (same.0, (same.1.0, same_nodes-more trees metas tree meta same.1.1 number parent))
