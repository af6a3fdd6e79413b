-- Worlds that are made of two halves, or of rows.
use Rattle.std.proofs.Common.{◌≡◌, ℕ, List, [], ◌∷◌, None, Result, Ok, Err, map, refl, sym, ap, ap₂, ◌∙◌, subst}
use Rattle.bl_syntax.specs.declared.terms.NodeId.{NodeId}
use Rattle.file_world.specs.Attributes.{Mark, Marks, AreMarks}
use Rattle.file_world.specs.Tree.{Nodes, FileTree, IsTree}
use Rattle.file_world.specs.World.{Item, World, IsWorld, node_of, mark_of, tree_of, marks_of}
use Rattle.node_rows.specs.declared.rows.TreeRow.{TreeRow}
use Rattle.node_rows.specs.declared.rows.MetaRow.{MetaRow}
use Rattle.node_rows.specs.Rows.{tree_row, meta_row, item_row, item_rows, AreOfSameNodes}
use Rattle.node_rows.specs.declared.rows.RowsFault.{RowsFault}
use Rattle.node_rows.specs.declared.rows.RowsFault.TheVariants.{NotTree, NoMemory}
use Rattle.file_tree.specs.State.{TreeView, directories_of_nodes, MakesTree}
use Rattle.attr_state.specs.State.{MetaView, directories_of_marks, MakesMarks}
use Rattle.world_state.specs.Halves.{joined_rows, joined, AreHalves}
use Rattle.world_state.specs.Made.{HaveSameNodes, JoinsHalves, world_of_rows, MakesWorld}
use Rattle.world_state.specs.State.{WorldState, settled}
use Rattle.world_state.proofs.HalvesLemmas.{shown}

-- ---- rows of the same nodes

-- the nodes of rows are those of their two halves
pub item_rows-joined : (trees : List TreeRow) (metas : List MetaRow) → item_rows trees metas ≡ joined_rows (map tree_row trees) (map meta_row metas)
item_rows-joined [] metas = refl
item_rows-joined (tree ∷ trees) [] = refl
item_rows-joined (tree ∷ trees) (meta ∷ metas) = ap (λ (rows : List (ℕ × Item)). item_row tree meta ∷ rows) (item_rows-joined trees metas)

pub same_from_rows : (trees : List TreeRow) (metas : List MetaRow) → AreOfSameNodes trees metas → directories_of_nodes (map tree_row trees) ≡ directories_of_marks (map meta_row metas)
same_from_rows [] [] same = refl
same_from_rows [] (meta ∷ metas) same = absurd same
same_from_rows (tree ∷ trees) [] same = absurd same
same_from_rows (tree ∷ trees) (meta ∷ metas) same =
    ap₂ (λ (node : ℕ × ℕ) (nodes : List (ℕ × ℕ)). node ∷ nodes)
    (ap₂ (λ (number : ℕ) (parent : ℕ). (number, parent)) (ap (λ (n : NodeId). n.0) same.0) same.1.0)
    (same_from_rows trees metas same.1.1)

pub rows_from_same : (trees : List TreeRow) (metas : List MetaRow) → directories_of_nodes (map tree_row trees) ≡ directories_of_marks (map meta_row metas) → AreOfSameNodes trees metas
rows_from_same [] [] same = tt
rows_from_same [] (meta ∷ metas) same = cc
rows_from_same (tree ∷ trees) [] same = cc
rows_from_same (tree ∷ trees) (meta ∷ metas) same =
    let first : (tree.number.0, tree.parent) ≡ (meta.number.0, meta.parent) = cc in
    let others : directories_of_nodes (map tree_row trees) ≡ directories_of_marks (map meta_row metas) = cc in (
      ap (λ (node : ℕ × ℕ). let number : NodeId = record { 0 = node.0 } in number) first,
      (ap (λ (node : ℕ × ℕ). node.1) first, rows_from_same trees metas others),
    )

-- ---- halves of the same nodes

pub nodes_joined : (rows : Nodes) (marks : Marks) → directories_of_nodes rows ≡ directories_of_marks marks → map (λ (row : ℕ × Item). (row.0, node_of row.1)) (joined_rows rows marks) ≡ rows
nodes_joined [] marks same = refl
nodes_joined (row ∷ rows) [] same = cc
nodes_joined (row ∷ rows) (mark ∷ marks) same =
    let others : directories_of_nodes rows ≡ directories_of_marks marks = cc in
    ap (λ (nodes : Nodes). row ∷ nodes) (nodes_joined rows marks others)

pub marks_joined : (rows : Nodes) (marks : Marks) → directories_of_nodes rows ≡ directories_of_marks marks → map (λ (row : ℕ × Item). (row.0, mark_of row.1)) (joined_rows rows marks) ≡ marks
marks_joined [] [] same = refl
marks_joined [] (mark ∷ marks) same = cc
marks_joined (row ∷ rows) [] same = cc
marks_joined (row ∷ rows) (mark ∷ marks) same =
    let first : (row.0, row.1.place.directory) ≡ (mark.0, mark.1.parent) = cc in
    let others : directories_of_nodes rows ≡ directories_of_marks marks = cc in
    let with_directory : ℕ × ℕ → ℕ × Mark = λ node. (node.0, record { owner = mark.1.owner; parent = node.1; attributes = mark.1.attributes }) in
    ap₂ (λ (one : ℕ × Mark) (more : Marks). one ∷ more) (ap with_directory first) (marks_joined rows marks others)

-- halves of the same nodes are those of one world
pub AreHalves-from : (tree : FileTree) (marks : Marks) → IsTree tree → AreMarks marks → HaveSameNodes tree marks → AreHalves tree marks
AreHalves-from tree marks is are same =
    let tree_is : tree_of (joined tree marks) ≡ tree = ap (λ (rows : Nodes). let it : FileTree = record { rows = rows; next = tree.next } in it) (nodes_joined tree.rows marks same) in
    let marks_are : marks_of (joined tree marks) ≡ marks = marks_joined tree.rows marks same in
    record {
      tree_is = tree_is;
      marks_are = marks_are;
      whole = record { tree = subst IsTree (sym tree_is) is; marks = subst AreMarks (sym marks_are) are };
    }

same_rows : (rows : List (ℕ × Item)) → directories_of_nodes (map (λ (row : ℕ × Item). (row.0, node_of row.1)) rows) ≡ directories_of_marks (map (λ (row : ℕ × Item). (row.0, mark_of row.1)) rows)
same_rows [] = refl
same_rows (row ∷ rows) = ap (λ (nodes : List (ℕ × ℕ)). (row.0, row.1.place.directory) ∷ nodes) (same_rows rows)

-- the halves of a world are of the same nodes
pub same_of_halves : (tree : FileTree) (marks : Marks) → AreHalves tree marks → HaveSameNodes tree marks
same_of_halves tree marks halves =
    sym (ap (λ (t : FileTree). directories_of_nodes t.rows) halves.tree_is)
    ∙ (same_rows (joined_rows tree.rows marks) ∙ ap directories_of_marks halves.marks_are)

-- ---- the world of rows

-- what rows of a world say of their two halves
pub record HalvesOfRows (next : ℕ) (trees : List TreeRow) (metas : List MetaRow) : Type 0 where
  pub tree : IsTree (record { rows = map tree_row trees; next = next })
  pub marks : AreMarks (map meta_row metas)

pub halves_of_rows : (next : ℕ) (trees : List TreeRow) (metas : List MetaRow) → AreOfSameNodes trees metas → IsWorld (world_of_rows next trees metas) → HalvesOfRows next trees metas
halves_of_rows next trees metas same is =
    let joins : item_rows trees metas ≡ joined_rows (map tree_row trees) (map meta_row metas) = item_rows-joined trees metas in
    let directories = same_from_rows trees metas same in
    let nodes : (tree_of (world_of_rows next trees metas)).rows ≡ map tree_row trees = ap (λ (rows : List (ℕ × Item)). map (λ (row : ℕ × Item). (row.0, node_of row.1)) rows) joins ∙ nodes_joined (map tree_row trees) (map meta_row metas) directories in
    let marks : marks_of (world_of_rows next trees metas) ≡ map meta_row metas = ap (λ (rows : List (ℕ × Item)). map (λ (row : ℕ × Item). (row.0, mark_of row.1)) rows) joins ∙ marks_joined (map tree_row trees) (map meta_row metas) directories in
    record {
      tree = subst (λ (rows : Nodes). IsTree (record { rows = rows; next = next })) nodes is.tree;
      marks = subst AreMarks marks is.marks;
    }

-- the world of two halves that are of these rows is the world of the rows
pub world_of_halves : (next : ℕ) (trees : List TreeRow) (metas : List MetaRow) (tree : FileTree) (marks : Marks) → tree ≡ record { rows = map tree_row trees; next = next } → marks ≡ map meta_row metas → joined tree marks ≡ world_of_rows next trees metas
world_of_halves next trees metas tree marks tree_is marks_are =
    ap₂ joined tree_is marks_are ∙ ap (λ (rows : List (ℕ × Item)). let it : World = record { rows = rows; next = next } in it) (sym (item_rows-joined trees metas))

abbrev file_tree_of : ℕ → List TreeRow → FileTree
file_tree_of next trees = record { rows = map tree_row trees; next = next }

-- halves that are made of rows are joined to the world of the rows, if they are of the same nodes
pub made_of_rows : (next : ℕ) (trees : List TreeRow) (metas : List MetaRow) (tree : FileTree) (marks : Marks) (result : Result WorldState RowsFault) → tree ≡ file_tree_of next trees → IsTree (file_tree_of next trees)
    → marks ≡ map meta_row metas → AreMarks (map meta_row metas) → JoinsHalves tree marks result → MakesWorld next trees metas result
made_of_rows next trees metas tree marks (Ok state) tree_is is marks_are are joins =
    let is_tree : IsTree tree = subst IsTree (sym tree_is) is in
    let are_marks : AreMarks marks = subst AreMarks (sym marks_are) are in
    let world : joined tree marks ≡ world_of_rows next trees metas = world_of_halves next trees metas tree marks tree_is marks_are in
    let directories : directories_of_nodes (map tree_row trees) ≡ directories_of_marks (map meta_row metas) =
    sym (ap (λ (t : FileTree). directories_of_nodes t.rows) tree_is) ∙ (joins.0 ∙ ap directories_of_marks marks_are) in (
      rows_from_same trees metas directories,
      (subst IsWorld world (AreHalves-from tree marks is_tree are_marks joins.0).whole, joins.1 ∙ ap settled world),
    )
made_of_rows next trees metas tree marks (Err NotTree) tree_is is marks_are are joins =
    λ same whole. joins (ap (λ (t : FileTree). directories_of_nodes t.rows) tree_is ∙ (same_from_rows trees metas same ∙ sym (ap directories_of_marks marks_are)))
made_of_rows next trees metas tree marks (Err NoMemory) tree_is is marks_are are joins = tt

-- rows of which no tree is made, or no marks, are those of no world
pub no_tree_of_rows : (next : ℕ) (trees : List TreeRow) (metas : List MetaRow) (fault : RowsFault) → MakesTree (file_tree_of next trees) (Err fault) → MakesWorld next trees metas (Err fault)
no_tree_of_rows next trees metas NotTree not = λ same is. not (halves_of_rows next trees metas same is).tree
no_tree_of_rows next trees metas NoMemory not = tt

pub no_marks_of_rows : (next : ℕ) (trees : List TreeRow) (metas : List MetaRow) (fault : RowsFault) → MakesMarks (map meta_row metas) (Err fault) → MakesWorld next trees metas (Err fault)
no_marks_of_rows next trees metas NotTree not = λ same is. not (halves_of_rows next trees metas same is).marks
no_marks_of_rows next trees metas NoMemory not = tt

-- the rows of both halves of a world are of the same nodes, which are the world's
pub record AreRowsOf (world : World) (trees : List TreeRow) (metas : List MetaRow) : Type 0 where
  pub same : AreOfSameNodes trees metas
  pub rows : item_rows trees metas ≡ world.rows

pub rows_of_halves : (tree : FileTree) (marks : Marks) (world : World) (trees : List TreeRow) (metas : List MetaRow) → AreHalves tree marks → joined tree marks ≡ world → map tree_row trees ≡ tree.rows → map meta_row metas ≡ marks → AreRowsOf world trees metas
rows_of_halves tree marks world trees metas halves is nodes_are marks_are =
    record {
      same = rows_from_same trees metas (ap directories_of_nodes nodes_are ∙ (same_of_halves tree marks halves ∙ sym (ap directories_of_marks marks_are)));
      rows = item_rows-joined trees metas ∙ (ap₂ joined_rows nodes_are marks_are ∙ ap (λ (w : World). w.rows) is);
    }

-- both halves when what they were ready for is given up
pub settled_halves : (tree after : TreeView) (meta meta_after : MetaView) → after ≡ record { tree = tree.tree; ready = None } → meta_after ≡ record { marks = meta.marks; ready = None } → shown after meta_after ≡ settled (joined tree.tree meta.marks)
settled_halves tree after meta meta_after tree_is meta_is = ap₂ shown tree_is meta_is
