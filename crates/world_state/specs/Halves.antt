-- A world as its two halves: the nodes of its tree, each with its mark (this project's own).
use Rattle.std.specs.Prelude.{◌≡◌, ℕ, List, [], ◌∷◌, Option, Some, None, Result, Ok, Err}
use Rattle.file_world.specs.declared.operation.TreeOp.TheVariants as on_tree
use Rattle.file_world.specs.declared.operation.MetaOp.TheVariants as on_meta
use Rattle.file_world.specs.declared.operation.Op.{Op}
use Rattle.file_world.specs.declared.operation.Op.TheVariants.{Read, Write, Truncate, List as ListOf, Lookup, Create, Mkdir, Unlink, Rename, Getattr, Setattr, Delattr, Chown}
use Rattle.file_world.specs.declared.refusal.OpFault.{OpFault}
use Rattle.file_world.specs.declared.refusal.OpFault.TheVariants.{Refused, NoMemory}
use Rattle.file_world.specs.declared.refusal.Refusal.{Refusal}
use Rattle.file_world.specs.declared.reply.OpReply.{OpReply}
use Rattle.file_world.specs.declared.reply.OpReply.TheVariants.{Tree as TreeOf, Meta as MetaOf}
use Rattle.file_world.specs.Attributes.{Mark, Marks}
use Rattle.file_world.specs.AttributeEffect.{IsAskable, meta_refusal, meta_reply}
use Rattle.file_world.specs.Effect.{Part, tree_part, meta_part}
use Rattle.file_world.specs.Halves.{MetaMayFollow, meta_op_of}
use Rattle.file_world.specs.Tree.{Node, Nodes, FileTree}
use Rattle.file_world.specs.TreeEffect.{tree_refusal, tree_reply}
use Rattle.file_world.specs.World.{Item, World, IsWorld, tree_of, marks_of}
use Rattle.file_tree.specs.State.{TreeView}
use Rattle.attr_state.specs.State.{MetaView}
use Rattle.world_state.specs.declared.half.Half.{Half}
use Rattle.world_state.specs.declared.half.Half.TheVariants.{Tree, Meta}
use Rattle.world_state.specs.State.{AreReady}

-- a node with its mark
abbrev pub item_of : Node → Mark → Item
item_of node mark = record { kind = node.kind; owner = mark.owner; attributes = mark.attributes; place = node.place; contents = node.contents }

-- nodes with their marks, which are in the same order
abbrev pub joined_rows : Nodes → Marks → List (ℕ × Item)
joined_rows [] marks = []
joined_rows (row ∷ rows) [] = []
joined_rows (row ∷ rows) (mark ∷ marks) = (row.0, item_of row.1 mark.1) ∷ joined_rows rows marks

-- the world of a tree and marks
abbrev pub joined : FileTree → Marks → World
joined tree marks = record { rows = joined_rows tree.rows marks; next = tree.next }

-- the tree and the marks are the halves of one world
pub record AreHalves (tree : FileTree) (marks : Marks) : Type 0 where
  pub tree_is : tree_of (joined tree marks) ≡ tree
  pub marks_are : marks_of (joined tree marks) ≡ marks
  pub whole : IsWorld (joined tree marks)

-- the code's own form of a half's operation
abbrev pub part_in : Half → Part
part_in (Tree op) = tree_part op
part_in (Meta op) = meta_part op

-- the operation of which this is the half's; of the last three, which only follow the tree, there is none
abbrev pub op_in : Part → Option Op
op_in (tree_part (on_tree.Read file offset len)) = Some (Read file offset len)
op_in (tree_part (on_tree.Write file offset bytes)) = Some (Write file offset bytes)
op_in (tree_part (on_tree.Truncate file len)) = Some (Truncate file len)
op_in (tree_part (on_tree.List directory)) = Some (ListOf directory)
op_in (tree_part (on_tree.Lookup directory name)) = Some (Lookup directory name)
op_in (tree_part (on_tree.Create directory name)) = Some (Create directory name)
op_in (tree_part (on_tree.Mkdir directory name)) = Some (Mkdir directory name)
op_in (tree_part (on_tree.Unlink directory name)) = Some (Unlink directory name)
op_in (tree_part (on_tree.Rename directory name target renamed)) = Some (Rename directory name target renamed)
op_in (meta_part (on_meta.Get node name)) = Some (Getattr node name)
op_in (meta_part (on_meta.Set node name value)) = Some (Setattr node name value)
op_in (meta_part (on_meta.Remove node name)) = Some (Delattr node name)
op_in (meta_part (on_meta.Chown node owner)) = Some (Chown node owner)
op_in (meta_part (on_meta.Add node owner parent)) = None
op_in (meta_part (on_meta.Drop node)) = None
op_in (meta_part (on_meta.Move node parent)) = None

abbrev pub halves_refusal : FileTree → Marks → Part → Option Refusal
halves_refusal tree marks (tree_part op) = tree_refusal tree op
halves_refusal tree marks (meta_part op) = meta_refusal marks op

abbrev pub halves_reply : FileTree → Marks → Part → OpReply
halves_reply tree marks (tree_part op) = TreeOf (tree_reply tree op)
halves_reply tree marks (meta_part op) = MetaOf (meta_reply marks op)

-- the marks may be asked for what the caller's operation does to them
abbrev pub IsAskedOf : List ℕ → FileTree → Marks → Part → Type 0
IsAskedOf caller tree marks (tree_part op) = tree_refusal tree op ≡ None →
    MetaMayFollow marks (meta_op_of caller tree (tree_part op))
IsAskedOf caller tree marks (meta_part op) = IsAskable marks op

-- the operation got its reply and both halves are ready; or it is refused, and its first refusal is
-- reported; or out of memory
abbrev pub HalvesReserve : List ℕ → FileTree → Marks → Part → Result OpReply OpFault → TreeView →
    MetaView → Type 0
HalvesReserve caller tree marks part (Ok told) tree_after meta_after =
    (halves_refusal tree marks part ≡ None) × (told ≡ halves_reply tree marks part) ×
    AreReady caller tree_after meta_after part
HalvesReserve caller tree marks part (Err (Refused refused)) tree_after meta_after = halves_refusal tree marks part ≡ Some refused
HalvesReserve caller tree marks part (Err NoMemory) tree_after meta_after = halves_refusal tree marks part ≡ None
