-- What contracts see of a tree: its rows and the next number, and for which change it is ready.
use Rattle.std.specs.Prelude.{◌≡◌, ℕ, List, length, map, Option, Some, None, unwrap_or, Result, Ok, Err}
use Rattle.file_world.specs.declared.operation.Kind.TheVariants.{File, Directory}
use Rattle.file_world.specs.declared.operation.TreeOp.{TreeOp}
use Rattle.file_world.specs.declared.operation.TreeOp.TheVariants.{Read, Write, Truncate, List as ListOf, Lookup, Create, Mkdir, Unlink, Rename}
use Rattle.file_world.specs.declared.refusal.OpFault.{OpFault}
use Rattle.file_world.specs.declared.refusal.OpFault.TheVariants.{Refused, NoMemory}
use Rattle.file_world.specs.declared.reply.TreeReply.{TreeReply}
use Rattle.file_world.specs.Tree.{Nodes, FileTree, node_at, IsTree}
use Rattle.file_world.specs.TreeEffect.{child_of, contents_of, write_at, tree_refusal, tree_reply}
use Rattle.node_rows.specs.declared.rows.RowsFault.{RowsFault}
use Rattle.node_rows.specs.declared.rows.RowsFault.TheVariants as on_rows
use Rattle.file_tree.specs.declared.ready.Spot.{Spot}
use Rattle.file_tree.specs.declared.ready.Ready.{Ready}
use Rattle.file_tree.specs.declared.ready.Ready.TheVariants.{Nothing, Contents, Made, Gone, Moved}

-- the tree, and the change for which memory was taken
pub record TreeView : Type 0 where
  pub tree : FileTree
  pub ready : Option Ready

-- the number of each node, and that of its directory
abbrev pub directories_of_nodes : Nodes → List (ℕ × ℕ)
directories_of_nodes rows = map (λ row. (row.0, row.1.place.directory)) rows

abbrev pub spot : ℕ → List ℕ → Spot
spot directory name = record { directory = directory; name = name }

abbrev pub child_or_none : FileTree → ℕ → List ℕ → ℕ
child_or_none tree directory name = unwrap_or (child_of tree.rows directory name) 0

-- what an operation that is not refused gets ready
abbrev pub ready_for : FileTree → TreeOp → Ready
ready_for tree (Read file offset len) = Nothing
ready_for tree (Write file offset bytes) = Contents file.0 (length (write_at (contents_of (node_at tree.rows file.0)) offset bytes))
ready_for tree (Truncate file len) = Contents file.0 len
ready_for tree (ListOf directory) = Nothing
ready_for tree (Lookup directory name) = Nothing
ready_for tree (Create directory name) = Made File (spot directory.0 name)
ready_for tree (Mkdir directory name) = Made Directory (spot directory.0 name)
ready_for tree (Unlink directory name) = Gone (child_or_none tree directory.0 name) (spot directory.0 name)
ready_for tree (Rename directory name target renamed) = Moved (child_or_none tree directory.0 name) (spot directory.0 name) (spot target.0 renamed)

-- the operation is not refused, and what it changes is ready
pub record IsReady (state : TreeView) (op : TreeOp) : Type 0 where
  pub free : tree_refusal state.tree op ≡ None
  pub ready : state.ready ≡ Some (ready_for state.tree op)

-- the operation got its reply and is ready; or it is refused, and its first refusal is reported; or
-- out of memory
abbrev pub Reserves : FileTree → TreeOp → Result TreeReply OpFault → Option Ready → Type 0
Reserves tree op (Ok reply) ready = (tree_refusal tree op ≡ None) × (reply ≡ tree_reply tree op) ×
    (ready ≡ Some (ready_for tree op))
Reserves tree op (Err (Refused refusal)) ready = (tree_refusal tree op ≡ Some refusal) ×
    (ready ≡ None)
Reserves tree op (Err NoMemory) ready = (tree_refusal tree op ≡ None) × (ready ≡ None)

-- the tree of the rows is made, with nothing ready; or they are no tree's; or out of memory
abbrev pub MakesTree : FileTree → Result TreeView RowsFault → Type 0
MakesTree tree (Ok view) = IsTree tree × (view ≡ record { tree = tree; ready = None })
MakesTree tree (Err on_rows.NotTree) = IsTree tree → ⊥
MakesTree tree (Err on_rows.NoMemory) = Unit {0}
