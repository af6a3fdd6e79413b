-- Rows as nodes of a world: each node has a row of the tree and one of owners and attributes (this
-- project's own).
use Rattle.std.specs.Prelude.{◌≡◌, ℕ, List, [], ◌∷◌}
use Rattle.node_rows.specs.declared.rows.TreeRow.{TreeRow}
use Rattle.node_rows.specs.declared.rows.MetaRow.{MetaRow}
use Rattle.file_world.specs.Tree.{Node}
use Rattle.file_world.specs.Attributes.{Mark}
use Rattle.file_world.specs.World.{Item}

-- what the tree keeps, under the number of the node
abbrev pub tree_row : TreeRow → ℕ × Node
tree_row row = (row.number.0, record { kind = row.kind; place = record { directory = row.parent; name = row.name }; contents = row.contents })

-- the owner and the attributes, under the number of the node
abbrev pub meta_row : MetaRow → ℕ × Mark
meta_row row = (row.number.0, record { owner = row.owner; parent = row.parent; attributes = row.attributes })

-- all that is kept of a node, under its number
abbrev pub item_row : TreeRow → MetaRow → ℕ × Item
item_row tree meta = (
  tree.number.0,
  record {
    kind = tree.kind;
    owner = meta.owner;
    attributes = meta.attributes;
    place = record { directory = tree.parent; name = tree.name };
    contents = tree.contents;
  },
)

-- the same of all nodes, whose rows are in the same order
abbrev pub item_rows : List TreeRow → List MetaRow → List (ℕ × Item)
item_rows [] metas = []
item_rows (tree ∷ trees) [] = []
item_rows (tree ∷ trees) (meta ∷ metas) = item_row tree meta ∷ item_rows trees metas

-- the rows are of the same nodes: as many in both lists, and the numbers and directories are the
-- same in each pair
abbrev pub AreOfSameNodes : List TreeRow → List MetaRow → Type 0
AreOfSameNodes [] [] = Unit {0}
AreOfSameNodes [] (meta ∷ metas) = ⊥
AreOfSameNodes (tree ∷ trees) [] = ⊥
AreOfSameNodes (tree ∷ trees) (meta ∷ metas) = (tree.number ≡ meta.number) ×
    ((tree.parent ≡ meta.parent) × AreOfSameNodes trees metas)
