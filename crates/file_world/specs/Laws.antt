-- Laws of the definitions: what a tree stays, what a walk and a list tell, and what an operation
-- leaves alone.
use Rattle.std.specs.Prelude.{◌≡◌, ◌≢◌, ◌<◌, ◌≤◌, ◌+◌, ◌-◌, ◌++◌, ◌⊎◌, ◌↔◌, ℕ, List, length, map, take, drop, replicate, IsTrue, IsSome, Option, Some, None, nat_eq, true}
use Rattle.std.specs.List.{AllByRecursion}
use Rattle.std.specs.List.Sorted.{IsStrictlySortedBy}
use Rattle.std.specs.Map.{lookup}
use Rattle.std.specs.Ordering.{nat_cmp}
use Rattle.std.specs.Str.{bytes_eq}
use Rattle.std.specs.Cmp.Lexicographic.{slice_cmp}
use Rattle.bl_syntax.specs.Names.{is_principal_name}
use Rattle.bl_syntax.specs.declared.terms.NodeId.{NodeId}
use Rattle.file_world.specs.declared.operation.TreeOp.{TreeOp}
use Rattle.file_world.specs.declared.operation.MetaOp.{MetaOp}
use Rattle.file_world.specs.declared.operation.Op.{Op}
use Rattle.file_world.specs.declared.operation.Op.TheVariants.{Write, Truncate, Rename, Setattr, Delattr, Chown}
use Rattle.file_world.specs.declared.refusal.Refusal.{Refusal}
use Rattle.file_world.specs.declared.reply.OpReply.{OpReply}
use Rattle.file_world.specs.declared.reply.MetaReply.{MetaReply}
use Rattle.file_world.specs.declared.reply.TreeReply.{TreeReply}
use Rattle.file_world.specs.Outcome.{NoneHolds, IsFirst, refused, replied}
use Rattle.file_world.specs.Tree.{Node, Nodes, FileTree, node_at, IsTree}
use Rattle.file_world.specs.TreeEffect.{at, child_of, names_in, is_directory, is_into_itself, write_at, resize_to, bytes_in, tree_effect, TreeChange, changed_tree, fresh_tree}
use Rattle.file_world.specs.Attributes.{Marks, value_at, AreMarks}
use Rattle.file_world.specs.AttributeEffect.{IsMetaOperation, IsAskable, marks_after, meta_effect, fresh_marks}
use Rattle.file_world.specs.World.{Item, World, tree_of, marks_of, IsWorld, fresh_world}
use Rattle.file_world.specs.Effect.{part_of, tests_in, IsOperation, refusal, reply, world_after, changed_world, marked_world, effect, item_with_contents, item_with_place, item_with_owner, item_with_attributes}
use Rattle.file_world.specs.Needs.{needs, slots}
use Rattle.file_world.specs.Halves.{following, marks_followed, IsDirect, meta_op_of, tree_half_after, MetaMayFollow}

-- an operation that is not refused leaves a tree a tree
abbrev pub TreesStayTrees : Type 0
TreesStayTrees = (tree after : FileTree) (op : TreeOp) (reply : TreeReply) → IsTree tree
    → tree_effect tree op ≡ replied reply after → IsTree after

-- the number is the container's, or stands below it
pub data StandsIn (rows : Nodes) (container : ℕ) : ℕ → Type 0 where
  itself : StandsIn rows container container
  below_it : (number : ℕ) (node : Node) → node_at rows number ≡ Some node
      → StandsIn rows container node.place.directory → StandsIn rows container number

-- the walk that looks for a loop is long enough in every tree: it tells of each node whether it
-- stands in another
abbrev pub WalksAreLongEnough : Type 0
WalksAreLongEnough = (tree : FileTree) (container number : ℕ) → IsTree tree
    → IsSome (node_at tree.rows container) → IsSome (node_at tree.rows number)
    → (is_into_itself tree.rows container number ≡ true) ↔ StandsIn tree.rows container number

-- the names in a directory are in byte order, and each stands for the child of that name
abbrev pub NamesAreChildren : Type 0
NamesAreChildren = (tree : FileTree) (directory : ℕ) → IsTree tree
    → IsTrue (is_directory (node_at tree.rows directory))
    → IsStrictlySortedBy (slice_cmp nat_cmp) (map (λ named. named.name) (names_in tree.rows directory))
    × ((name : List ℕ) → lookup (bytes_eq name) (map (λ named. (named.name, named.node.0)) (names_in tree.rows directory)) ≡ child_of tree.rows directory name)

-- an operation is refused exactly if one of its tests holds, and then as the first that holds says;
-- otherwise it gets its reply
abbrev pub RefusalsComeInOrder : Type 0
RefusalsComeInOrder = (caller : List ℕ) (op : Op) (world : World)
    → ((refusal : Refusal) → (effect caller op world ≡ refused refusal) ↔ IsFirst (tests_in world (part_of op)) refusal)
    × ((effect caller op world ≡ replied (reply world op) (world_after caller world op)) ↔ NoneHolds (tests_in world (part_of op)))

-- the item of that number
abbrev pub item_at : World → ℕ → Option Item
item_at world number = lookup (nat_eq number) world.rows

-- no number is used again: the next number never falls, each number in use is an old one or was the
-- next, and what is gone stays gone
abbrev pub NumbersAreUsedOnce : Type 0
NumbersAreUsedOnce = (caller : List ℕ) (op : Op) (world after : World) (reply : OpReply)
    → effect caller op world ≡ replied reply after
    → (world.next ≤ after.next)
    × ((number : ℕ) → IsSome (item_at after number) → IsSome (item_at world number) ⊎ ((number ≡ world.next) × (after.next ≡ world.next + 1)))
    × ((number : ℕ) → number < world.next → item_at world number ≡ None → (number < after.next) × (item_at after number ≡ None))

-- marks stay within the limits after each operation that may be asked for and is not refused, if
-- its owner is a principal's name and its value a text
abbrev pub MarksStayMarks : Type 0
MarksStayMarks = (marks after : Marks) (op : MetaOp) (reply : MetaReply) → AreMarks marks
    → IsMetaOperation op → IsAskable marks op → meta_effect marks op ≡ replied reply after
    → AreMarks after

-- a change of the tree changes that half of the world as it changes the tree alone, and the other
-- half by what follows
abbrev pub HalvesFollow : Type 0
HalvesFollow = (caller : List ℕ) (change : TreeChange) (world : World) → IsWorld world
    → (tree_of (changed_world caller change world) ≡ changed_tree change (tree_of world))
    × (marks_of (changed_world caller change world) ≡ marks_followed (marks_of world) (following caller world.next change))

-- reading, setting and removing an attribute, and changing an owner, change that half of the world
-- alone
abbrev pub MarksChangeAlone : Type 0
MarksChangeAlone = (op : MetaOp) (world : World) → IsDirect op
    → (tree_of (marked_world op world) ≡ tree_of world)
    × (marks_of (marked_world op world) ≡ marks_after (marks_of world) op)

-- the halves of the world after an operation, and that the second may be asked for its part of it
pub record HalvesAfter (caller : List ℕ) (op : Op) (world after : World) : Type 0 where
  pub tree : tree_of after ≡ tree_half_after (tree_of world) (part_of op)
  pub marks : marks_of after ≡ marks_followed (marks_of world) (meta_op_of caller (tree_of world) (part_of op))
  pub may_follow : MetaMayFollow (marks_of world) (meta_op_of caller (tree_of world) (part_of op))

-- each operation that is not refused does to each half what the half's own operation does
abbrev pub HalvesKeepStep : Type 0
HalvesKeepStep = (caller : List ℕ) (op : Op) (world : World) → IsWorld world
    → refusal world op ≡ None → HalvesAfter caller op world (world_after caller world op)

-- an operation of a principal that is not refused leaves a world within its limits, if its owner is
-- a principal's name and its value a text
abbrev pub WorldsStayWorlds : Type 0
WorldsStayWorlds = (caller : List ℕ) (op : Op) (world : World) → IsWorld world
    → IsTrue (is_principal_name caller) → IsOperation op → refusal world op ≡ None
    → IsWorld (world_after caller world op)

-- the world with the root alone is within its limits
abbrev pub FreshIsWorld : Type 0
FreshIsWorld = IsWorld fresh_world × (tree_of fresh_world ≡ fresh_tree)
    × (marks_of fresh_world ≡ fresh_marks)

-- what is renamed keeps all but its place, and all else stays, also what stands below it
abbrev pub RenamesKeepTheRest : Type 0
RenamesKeepTheRest = (caller : List ℕ) (directory target : NodeId) (name renamed : List ℕ) (world after : World) (reply : OpReply) → IsWorld world
    → effect caller (Rename directory name target renamed) world ≡ replied reply after
    → (child : ℕ) × (item : Item) × (child_of (tree_of world).rows directory.0 name ≡ Some child)
    × (item_at world child ≡ Some item)
    × (item_at after child ≡ Some (item_with_place (at target.0 renamed) item))
    × ((other : ℕ) → other ≢ child → item_at after other ≡ item_at world other)
    × (after.next ≡ world.next)

-- what is written is read back, the bytes beside it stay, and a gap before it is zero
abbrev pub WritesAreReadBack : Type 0
WritesAreReadBack = (old bytes : List ℕ) (offset : ℕ) → 0 < length bytes
    → (bytes_in (write_at old offset bytes) offset (length bytes) ≡ bytes)
    × (take offset (write_at old offset bytes) ≡ take offset old ++ replicate (offset - length old) 0)
    × (drop (offset + length bytes) (write_at old offset bytes) ≡ drop (offset + length bytes) old)

-- a file that is cut keeps its first bytes, and one that is filled up keeps all and has zero bytes
-- after them
abbrev pub TruncatesKeepTheFirst : Type 0
TruncatesKeepTheFirst = (old : List ℕ) (len : ℕ)
    → (length (resize_to old len) ≡ len)
    × (take (length old) (resize_to old len) ≡ take len old)
    × (drop (length old) (resize_to old len) ≡ replicate (len - length old) 0)

-- the node of the number becomes another as told; every other node and the next number stay
pub record ChangesOneNode (number : ℕ) (Becomes : Item → Item → Type 0) (world after : World) : Type 0 where
  pub before : Item
  pub later : Item
  pub there : item_at world number ≡ Some before
  pub changed : item_at after number ≡ Some later
  pub becomes : Becomes before later
  pub others : (other : ℕ) → other ≢ number → item_at after other ≡ item_at world other
  pub next : after.next ≡ world.next

-- a file that is written or cut keeps all but its contents, and all other nodes stay
abbrev pub ContentsChangeAlone : Type 0
ContentsChangeAlone = (caller : List ℕ) (file : NodeId) (world after : World) (reply : OpReply)
    → ((offset : ℕ) (bytes : List ℕ) → effect caller (Write file offset bytes) world ≡ replied reply after
    → ChangesOneNode file.0 (λ before later. later ≡ item_with_contents (write_at before.contents offset bytes) before) world after)
    × ((len : ℕ) → effect caller (Truncate file len) world ≡ replied reply after
    → ChangesOneNode file.0 (λ before later. later ≡ item_with_contents (resize_to before.contents len) before) world after)

-- the attribute of the name has the value, or is not there; the other attributes and all else that
-- is kept of the node stay
abbrev pub HasValueAfter : List ℕ → Option (List ℕ) → Item → Item → Type 0
HasValueAfter name value before later = (later ≡ item_with_attributes later.attributes before)
    × (value_at later.attributes name ≡ value)
    × ((other : List ℕ) → other ≢ name → value_at later.attributes other ≡ value_at before.attributes other)

-- an attribute that is set has its value, one that is removed is gone, and all else stays
abbrev pub AttributesChangeAlone : Type 0
AttributesChangeAlone = (caller : List ℕ) (node : NodeId) (name : List ℕ) (world after : World) (reply : OpReply) → IsWorld world
    → ((value : List ℕ) → effect caller (Setattr node name value) world ≡ replied reply after
    → ChangesOneNode node.0 (HasValueAfter name (Some value)) world after)
    × (effect caller (Delattr node name) world ≡ replied reply after
    → ChangesOneNode node.0 (HasValueAfter name None) world after)

-- a node that gets another owner keeps all else, and all other nodes stay
abbrev pub OwnersChangeAlone : Type 0
OwnersChangeAlone = (caller owner : List ℕ) (node : NodeId) (world after : World) (reply : OpReply)
    → effect caller (Chown node owner) world ≡ replied reply after
    → ChangesOneNode node.0 (λ before later. later ≡ item_with_owner owner before) world after

-- the needs of an operation have rising places from 1 on, none of them beyond the procaps that it
-- brings
abbrev pub NeedsHaveProcaps : Type 0
NeedsHaveProcaps = (world : World) (op : Op)
    → IsStrictlySortedBy nat_cmp (map (λ need. need.place) (needs world op))
    × AllByRecursion (λ need. (1 ≤ need.place) × (need.place ≤ slots op)) (needs world op)
