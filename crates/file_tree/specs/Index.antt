-- How the nodes that the code keeps stand for the rows of a tree, and where the names in its
-- directories are found.
use Rattle.std.specs.Prelude.{◌≡◌, ◌≢◌, ◌≤◌, ◌<◌, ◌-◌, ℕ, List, [], ◌∷◌, ◌++◌, length, take, map, false, Option, Some, None, if◌then◌else◌, nat_eq, ◌==◌}
use Rattle.std.specs.Map.{lookup, remove_entry}
use Rattle.std.specs.BTreeMap.{is_at}
use Rattle.std.specs.Ordering.{nat_cmp}
use Rattle.std.specs.Cmp.Lexicographic.{slice_cmp}
use Rattle.file_world.specs.Tree.{Place, Node, Nodes, FileTree, is_place, contents_sum, IsTree}
use Rattle.bl_syntax.specs.declared.terms.NodeId.{NodeId}
use Rattle.file_world.specs.declared.reply.NamedNode.{NamedNode}
use Rattle.file_world.specs.declared.operation.TreeOp.{TreeOp}
use Rattle.file_tree.specs.State.{ready_for}
use Rattle.file_world.specs.TreeEffect.{tree_refusal, at, child_of, new_node, revise, with_contents, with_place}
use Rattle.file_tree.specs.declared.node.KeptNode.{KeptNode as Kept}
use Rattle.file_tree.specs.declared.ready.Spot.{Spot}
use Rattle.file_tree.specs.declared.ready.Ready.{Ready}
use Rattle.file_tree.specs.declared.ready.Ready.TheVariants.{Nothing, Contents, Made, Gone, Moved}

-- nodes as they are kept, under their numbers
abbrev pub Entries : Type 0
Entries = List (ℕ × Kept)

-- what the tree shows of a node
abbrev pub node_shown : Kept → Node
node_shown kept = record { kind = kept.kind; place = record { directory = kept.parent; name = kept.name }; contents = kept.contents.bytes }

abbrev pub rows_of : Entries → Nodes
rows_of entries = map (λ entry. (entry.0, node_shown entry.1)) entries

-- the node that is kept under the number
abbrev pub kept_at : Entries → ℕ → Option Kept
kept_at entries number = lookup (is_at (nat_cmp number)) entries

-- what a node keeps under the name
abbrev pub number_in : Option Kept → List ℕ → Option ℕ
number_in None name = None
number_in (Some kept) name = lookup (is_at (slice_cmp nat_cmp name)) kept.names.entries

-- what the directory keeps under the name: a node's number, or 0 if the name is only held
abbrev pub reserved_at : Entries → ℕ → List ℕ → Option ℕ
reserved_at entries directory name = number_in (kept_at entries directory) name

abbrev pub spot_place : Spot → Place
spot_place spot = record { directory = spot.directory; name = spot.name }

-- the place whose name is held for what is ready
abbrev pub reserved_spot : Option Ready → Option Spot
reserved_spot None = None
reserved_spot (Some Nothing) = None
reserved_spot (Some (Contents number len)) = None
reserved_spot (Some (Made kind spot)) = Some spot
reserved_spot (Some (Gone number spot)) = None
reserved_spot (Some (Moved number from to)) = Some to

-- the nodes without one that is only ready to be made, which is the last
abbrev pub published_nodes : Option Ready → Entries → Entries
published_nodes None entries = entries
published_nodes (Some Nothing) entries = entries
published_nodes (Some (Contents number len)) entries = entries
published_nodes (Some (Made kind spot)) entries = take (length entries - 1) entries
published_nodes (Some (Gone number spot)) entries = entries
published_nodes (Some (Moved number from to)) entries = entries

-- what is listed of each node, without what is listed of one that is only ready to be made, which
-- is the last
abbrev pub without_unpublished : {Row : Type 0} → Option Ready → List Row → List Row
without_unpublished None rows = rows
without_unpublished (Some Nothing) rows = rows
without_unpublished (Some (Contents number len)) rows = rows
without_unpublished (Some (Made kind spot)) rows = take (length rows - 1) rows
without_unpublished (Some (Gone number spot)) rows = rows
without_unpublished (Some (Moved number from to)) rows = rows

-- what the directory is to keep under the name: its child, but 0 for the name that is held
abbrev pub expected_number : Option Spot → Nodes → ℕ → List ℕ → Option ℕ
expected_number None rows directory name = child_of rows directory name
expected_number (Some spot) rows directory name =
    if is_place (spot_place spot) (at directory name) then Some 0 else child_of rows directory name

-- the name that is held stands for no node
abbrev pub IsReservedFree : Option Spot → Nodes → Type 0
IsReservedFree None rows = Unit {0}
IsReservedFree (Some spot) rows = child_of rows spot.directory spot.name ≡ None

-- a node is kept with room for so many bytes
pub record HasContentsRoom (entries : Entries) (number len : ℕ) : Type 0 where
  pub kept : Kept
  pub found : kept_at entries number ≡ Some kept
  pub room : len ≤ kept.contents.room

-- the last node is the new one, and a directory without names
pub record IsLast (entries : Entries) (next : ℕ) (node : Node) : Type 0 where
  pub before : Entries
  pub kept : Kept
  pub last : entries ≡ before ++ (next, kept) ∷ []
  pub new : node_shown kept ≡ node
  pub no_names : kept.names.entries ≡ []

-- the memory for what is ready is there
abbrev pub IsPrepared : Option Ready → Entries → ℕ → Type 0
IsPrepared None entries next = Unit {0}
IsPrepared (Some Nothing) entries next = Unit {0}
IsPrepared (Some (Contents number len)) entries next = HasContentsRoom entries number len
IsPrepared (Some (Made kind spot)) entries next = IsLast entries next (new_node kind (spot_place spot))
IsPrepared (Some (Gone number spot)) entries next = Unit {0}
IsPrepared (Some (Moved number from to)) entries next = Unit {0}

abbrev pub tree_in : Option Ready → Entries → ℕ → FileTree
tree_in ready entries next = record { rows = rows_of (published_nodes ready entries); next = next }

-- the nodes that are kept are those of a tree, the names in the directories those of its children,
-- and what is ready is prepared
pub record IsTreeIndex (entries : Entries) (next : ℕ) (ready : Option Ready) : Type 0 where
  pub tree : IsTree (tree_in ready entries next)
  pub index : (directory : ℕ) (name : List ℕ) →
      reserved_at entries directory name ≡ expected_number (reserved_spot ready) (rows_of (published_nodes ready entries)) directory name
  pub free : IsReservedFree (reserved_spot ready) (rows_of (published_nodes ready entries))
  pub prepared : IsPrepared ready entries next

-- a directory keeps the number under the name of the place, and all else is as before
pub record Puts (old new : Entries) (place : Place) (number : Option ℕ) : Type 0 where
  pub here : reserved_at new place.directory place.name ≡ number
  pub elsewhere : (directory : ℕ) (name : List ℕ) → is_place place (at directory name) ≡ false →
      reserved_at new directory name ≡ reserved_at old directory name
  pub same_rows : rows_of new ≡ rows_of old

-- all is as before, but for room
pub record ChangesRoomAlone (old new : Entries) : Type 0 where
  pub same_held : (directory : ℕ) (name : List ℕ) →
      reserved_at new directory name ≡ reserved_at old directory name
  pub same_rows : rows_of new ≡ rows_of old

-- each number that is kept is below the next one
abbrev pub AreNumbersBelow : Entries → ℕ → Type 0
AreNumbersBelow entries next = (number : ℕ) (kept : Kept) → kept_at entries number ≡ Some kept →
    number < next

-- one more node is kept at the end, a directory without names
pub record AddsLast (old new : Entries) (next : ℕ) (node : Node) : Type 0 where
  pub kept : Kept
  pub last : new ≡ old ++ (next, kept) ∷ []
  pub shows : node_shown kept ≡ node
  pub no_names : kept.names.entries ≡ []

-- what is ready is prepared, and the rows are as before
pub record Prepares (old new : Entries) (next : ℕ) (ready : Ready) : Type 0 where
  pub kept : IsTreeIndex new next (Some ready)
  pub same_rows : rows_of (published_nodes (Some ready) new) ≡ rows_of old

-- nothing is ready, and the rows are as before
pub record Stays (old new : Entries) (next : ℕ) : Type 0 where
  pub kept : IsTreeIndex new next None
  pub same_rows : rows_of new ≡ rows_of old

-- the node of that number has those contents, and the sum of all contents is told
pub record Fills (old new : Entries) (number : ℕ) (contents : List ℕ) (total : ℕ) : Type 0 where
  pub rows : rows_of new ≡ revise number (with_contents contents) (rows_of old)
  pub same_held : (directory : ℕ) (name : List ℕ) →
      reserved_at new directory name ≡ reserved_at old directory name
  pub summed : total ≡ contents_sum (rows_of new)

-- the node of that number is gone, and the name of its place, and the sum of all contents is told
pub record Removes (old new : Entries) (number : ℕ) (place : Place) (total : ℕ) : Type 0 where
  pub rows : rows_of new ≡ remove_entry (nat_eq number) (rows_of old)
  pub here : reserved_at new place.directory place.name ≡ None
  pub elsewhere : (directory : ℕ) (name : List ℕ) → is_place place (at directory name) ≡ false →
      directory ≢ number → reserved_at new directory name ≡ reserved_at old directory name
  pub within : (name : List ℕ) → reserved_at new number name ≡ None
  pub summed : total ≡ contents_sum (rows_of new)

-- the node of that number stands at the place, and all names are as before
pub record Replaces (old new : Entries) (number : ℕ) (place : Place) : Type 0 where
  pub rows : rows_of new ≡ revise number (with_place place) (rows_of old)
  pub same_held : (directory : ℕ) (name : List ℕ) →
      reserved_at new directory name ≡ reserved_at old directory name

-- the node of that number stands at the second place, and its name is there and no longer at the
-- first
pub record Relocates (old new : Entries) (number : ℕ) (from to : Place) : Type 0 where
  pub rows : rows_of new ≡ revise number (with_place to) (rows_of old)
  pub here : is_place from to ≡ false → reserved_at new to.directory to.name ≡ Some number
  pub there : reserved_at new from.directory from.name ≡ None
  pub elsewhere : (directory : ℕ) (name : List ℕ) → is_place from (at directory name) ≡ false →
      is_place to (at directory name) ≡ false →
      reserved_at new directory name ≡ reserved_at old directory name

abbrev pub option_number : Option ℕ → Option NodeId
option_number None = None
option_number (Some number) = Some (record { 0 = number })

-- a name and its node, as a list of names shows them
abbrev pub named_node : List ℕ × ℕ → NamedNode
named_node entry = record { name = entry.0; node = record { 0 = entry.1 } }

-- the operation is not refused, and its change is ready
pub record IsChangeable (entries : Entries) (next : ℕ) (ready : Ready) (op : TreeOp) : Type 0 where
  pub kept : IsTreeIndex entries next (Some ready)
  pub free : tree_refusal (tree_in (Some ready) entries next) op ≡ None
  pub is : ready ≡ ready_for (tree_in (Some ready) entries next) op

-- nothing is ready, the tree is this one, and the sum of all contents is told
pub record Changes (new : Entries) (next total : ℕ) (after : FileTree) : Type 0 where
  pub kept : IsTreeIndex new next None
  pub tree : tree_in None new next ≡ after
  pub summed : total ≡ contents_sum (rows_of new)

-- the number of the node that is ready to go or to move
abbrev pub number_ready : Ready → ℕ
number_ready Nothing = 0
number_ready (Contents number len) = 0
number_ready (Made kind spot) = 0
number_ready (Gone number spot) = number
number_ready (Moved number from to) = number

-- a number that is not 0
abbrev pub above_zero : Option ℕ → Option ℕ
above_zero None = None
above_zero (Some number) = if number == 0 then None else Some number

-- a node that shows the same, and has the same names
abbrev pub IsCopy : Kept → Kept → Type 0
IsCopy kept copy = (node_shown copy ≡ node_shown kept) × (copy.names.entries ≡ kept.names.entries)

-- what is ready, but for room in contents, which a copy has not
abbrev pub unroomed : Option Ready → Option Ready
unroomed None = None
unroomed (Some Nothing) = Some Nothing
unroomed (Some (Contents number len)) = None
unroomed (Some (Made kind spot)) = Some (Made kind spot)
unroomed (Some (Gone number spot)) = Some (Gone number spot)
unroomed (Some (Moved number from to)) = Some (Moved number from to)
