-- What each operation does to the world: its first refusal, or its reply and the world after it
-- (this project's own).
use Rattle.std.specs.Prelude.{ℕ, List, [], ◌∷◌, ◌++◌, ◌+◌, Option, IsTrue, nat_eq}
use Rattle.std.specs.Map.{remove_entry}
use Rattle.bl_syntax.specs.Names.{is_principal_name, is_text}
use Rattle.file_world.specs.declared.operation.Kind.{Kind}
use Rattle.file_world.specs.declared.operation.TreeOp.{TreeOp}
use Rattle.file_world.specs.declared.operation.TreeOp.TheVariants as on_tree
use Rattle.file_world.specs.declared.operation.MetaOp.{MetaOp}
use Rattle.file_world.specs.declared.operation.MetaOp.TheVariants as on_meta
use Rattle.file_world.specs.declared.operation.Op.{Op}
use Rattle.file_world.specs.declared.operation.Op.TheVariants.{Read, Write, Truncate, List as ListOf, Lookup, Create, Mkdir, Unlink, Rename, Getattr, Setattr, Delattr, Chown}
use Rattle.file_world.specs.declared.refusal.Refusal.{Refusal}
use Rattle.file_world.specs.declared.reply.OpReply.{OpReply}
use Rattle.file_world.specs.declared.reply.OpReply.TheVariants.{Tree as TreeOf, Meta as MetaOf}
use Rattle.file_world.specs.Tree.{Place}
use Rattle.file_world.specs.TreeEffect.{TreeChange, nothing, add, fill, remove, move, change_of, revise, tests_of, tree_refusal, tree_reply}
use Rattle.file_world.specs.Attributes.{Attributes, mark_at}
use Rattle.file_world.specs.AttributeEffect.{attributes_of, with_value, without_value, meta_tests, meta_refusal, meta_reply}
use Rattle.file_world.specs.World.{Item, World, tree_of, marks_of}
use Rattle.file_world.specs.Outcome.{Tests, Outcome, outcome}

-- whose refusals and reply an operation has: the tree's, or the attributes'
pub data Part : Type 0 where
  tree_part : TreeOp → Part
  meta_part : MetaOp → Part

abbrev pub part_of : Op → Part
part_of (Read file offset len) = tree_part (on_tree.Read file offset len)
part_of (Write file offset bytes) = tree_part (on_tree.Write file offset bytes)
part_of (Truncate file len) = tree_part (on_tree.Truncate file len)
part_of (ListOf directory) = tree_part (on_tree.List directory)
part_of (Lookup directory name) = tree_part (on_tree.Lookup directory name)
part_of (Create directory name) = tree_part (on_tree.Create directory name)
part_of (Mkdir directory name) = tree_part (on_tree.Mkdir directory name)
part_of (Unlink directory name) = tree_part (on_tree.Unlink directory name)
part_of (Rename directory name target renamed) = tree_part (on_tree.Rename directory name target renamed)
part_of (Getattr node name) = meta_part (on_meta.Get node name)
part_of (Setattr node name value) = meta_part (on_meta.Set node name value)
part_of (Delattr node name) = meta_part (on_meta.Remove node name)
part_of (Chown node owner) = meta_part (on_meta.Chown node owner)

-- an operation that brings no owner but a principal's name, and no value but a text
abbrev pub IsOperation : Op → Type 0
IsOperation (Read file offset len) = Unit {0}
IsOperation (Write file offset bytes) = Unit {0}
IsOperation (Truncate file len) = Unit {0}
IsOperation (ListOf directory) = Unit {0}
IsOperation (Lookup directory name) = Unit {0}
IsOperation (Create directory name) = Unit {0}
IsOperation (Mkdir directory name) = Unit {0}
IsOperation (Unlink directory name) = Unit {0}
IsOperation (Rename directory name target renamed) = Unit {0}
IsOperation (Getattr node name) = Unit {0}
IsOperation (Setattr node name value) = IsTrue (is_text value)
IsOperation (Delattr node name) = Unit {0}
IsOperation (Chown node owner) = IsTrue (is_principal_name owner)

-- the tests of an operation, in their order
abbrev pub tests_in : World → Part → Tests
tests_in world (tree_part op) = tests_of (tree_of world) op
tests_in world (meta_part op) = meta_tests (marks_of world) op

abbrev pub refusal_in : World → Part → Option Refusal
refusal_in world (tree_part op) = tree_refusal (tree_of world) op
refusal_in world (meta_part op) = meta_refusal (marks_of world) op

-- the first refusal of an operation
abbrev pub refusal : World → Op → Option Refusal
refusal world op = refusal_in world (part_of op)

abbrev pub reply_in : World → Part → OpReply
reply_in world (tree_part op) = TreeOf (tree_reply (tree_of world) op)
reply_in world (meta_part op) = MetaOf (meta_reply (marks_of world) op)

-- the reply of an operation that is not refused
abbrev pub reply : World → Op → OpReply
reply world op = reply_in world (part_of op)

-- ---- changes

-- a new node of that kind and place, without contents and attributes
abbrev pub new_item : List ℕ → Kind → Place → Item
new_item owner kind place = record { kind = kind; owner = owner; attributes = []; place = place; contents = [] }

abbrev pub item_with_contents : List ℕ → Item → Item
item_with_contents contents item = record item { contents = contents }

abbrev pub item_with_place : Place → Item → Item
item_with_place place item = record item { place = place }

abbrev pub item_with_owner : List ℕ → Item → Item
item_with_owner owner item = record item { owner = owner }

abbrev pub item_with_attributes : Attributes → Item → Item
item_with_attributes attributes item = record item { attributes = attributes }

-- the world with the node of that number revised
abbrev pub revised_world : ℕ → (Item → Item) → World → World
revised_world number revision world = record { rows = revise number revision world.rows; next = world.next }

-- the world after a change of its tree by the caller, who owns what is new
abbrev pub changed_world : List ℕ → TreeChange → World → World
changed_world caller nothing world = world
changed_world caller (add kind place) world = record { rows = world.rows ++ (world.next, new_item caller kind place) ∷ []; next = world.next + 1 }
changed_world caller (fill number contents) world = revised_world number (item_with_contents contents) world
changed_world caller (remove number) world = record { rows = remove_entry (nat_eq number) world.rows; next = world.next }
changed_world caller (move number place) world = revised_world number (item_with_place place) world

-- the world after an operation on owners and attributes; the others of these only follow the tree
abbrev pub marked_world : MetaOp → World → World
marked_world (on_meta.Get node name) world = world
marked_world (on_meta.Set node name value) world =
    revised_world node.0 (item_with_attributes (with_value (attributes_of (mark_at (marks_of world) node.0)) name value)) world
marked_world (on_meta.Remove node name) world =
    revised_world node.0 (item_with_attributes (without_value (attributes_of (mark_at (marks_of world) node.0)) name)) world
marked_world (on_meta.Chown node owner) world = revised_world node.0 (item_with_owner owner) world
marked_world (on_meta.Add node owner parent) world = world
marked_world (on_meta.Drop node) world = world
marked_world (on_meta.Move node parent) world = world

abbrev pub world_after_part : List ℕ → World → Part → World
world_after_part caller world (tree_part op) = changed_world caller (change_of (tree_of world) op) world
world_after_part caller world (meta_part op) = marked_world op world

-- the world after an operation that is not refused
abbrev pub world_after : List ℕ → World → Op → World
world_after caller world op = world_after_part caller world (part_of op)

-- what the caller's operation does
abbrev pub effect : List ℕ → Op → World → Outcome OpReply World
effect caller op world = outcome (refusal world op) (reply world op) (world_after caller world op)
