-- What each operation does to the file tree: its refusals in their order, its reply, and its change
-- (this project's own).
use Rattle.std.specs.Prelude.{ℕ, zero, suc, List, [], ◌∷◌, ◌++◌, ◌+◌, ◌-◌, length, take, drop, replicate, max, Option, Some, None, is_some, is_none, unwrap_or, Bool, true, false, not, nat_lt, nat_le, nat_eq, ◌||◌, ◌==◌, if◌then◌else◌}
use Rattle.std.specs.List.{list_any}
use Rattle.std.specs.Map.{remove_entry}
use Rattle.std.specs.Ordering.{is_lt, nat_cmp}
use Rattle.std.specs.Cmp.Lexicographic.{slice_cmp}
use Rattle.file_world.specs.declared.operation.Kind.{Kind}
use Rattle.file_world.specs.declared.operation.Kind.TheVariants.{File, Directory}
use Rattle.file_world.specs.declared.operation.TreeOp.{TreeOp}
use Rattle.file_world.specs.declared.operation.TreeOp.TheVariants.{Read, Write, Truncate, List as ListOf, Lookup, Create, Mkdir, Unlink, Rename}
use Rattle.file_world.specs.declared.refusal.Refusal.TheVariants.{NoNode, NotDirectory, IsDirectory, NoEntry, Exists, NotEmpty, BadName, TooBig, TreeFull, IntoItself}
use Rattle.file_world.specs.declared.refusal.Refusal.{Refusal}
use Rattle.file_world.specs.declared.reply.NamedNode.{NamedNode}
use Rattle.file_world.specs.declared.reply.TreeReply.{TreeReply}
use Rattle.file_world.specs.declared.reply.TreeReply.TheVariants.{Done, Bytes as BytesOf, Names as NamesOf, Node as NodeOf}
use Rattle.file_world.specs.FileNames.{is_node_name}
use Rattle.file_world.specs.Limits.{root_number, most_nodes, most_bytes, most_bytes_together, last_number}
use Rattle.file_world.specs.Tree.{Place, Node, Nodes, FileTree, node_at, number_at, contents_sum, root}
use Rattle.file_world.specs.Outcome.{Tests, first_of, Outcome, outcome}

-- ---- what the tests ask

abbrev pub is_directory_kind : Kind → Bool
is_directory_kind File = false
is_directory_kind Directory = true

abbrev pub is_directory : Option Node → Bool
is_directory None = false
is_directory (Some node) = is_directory_kind node.kind

abbrev pub at : ℕ → List ℕ → Place
at directory name = record { directory = directory; name = name }

-- the child of the directory under the name; none also if the number is no directory's
abbrev pub child_of : Nodes → ℕ → List ℕ → Option ℕ
child_of rows directory name = if is_directory (node_at rows directory) then number_at rows (at directory name) else None

abbrev pub contents_of : Option Node → List ℕ
contents_of None = []
contents_of (Some node) = node.contents

-- some node has the number as its directory's
abbrev pub has_names : Nodes → ℕ → Bool
has_names rows directory = list_any (λ row. row.1.place.directory == directory) rows

-- no node, or no number, is left for another
abbrev pub is_full : FileTree → Bool
is_full tree = nat_le most_nodes (length tree.rows) || (tree.next == last_number)

-- the walk goes on to the node's directory; it fails if there is no node
abbrev pub has_way_on : Option Node → (ℕ → Bool) → Bool
has_way_on None past = false
has_way_on (Some node) past = past node.place.directory

-- following directories from the number, with so many steps, leads to the root without meeting the
-- avoided node
abbrev pub has_way_past : ℕ → Nodes → ℕ → ℕ → Bool
has_way_past zero rows avoided number = false
has_way_past (suc steps) rows avoided number =
    if number == avoided then false else
    if number == root_number then true else
    has_way_on (node_at rows number) (has_way_past steps rows avoided)

-- the node to be moved is the new directory or stands above it
abbrev pub is_into_itself : Nodes → ℕ → ℕ → Bool
is_into_itself rows moved directory = not (has_way_past (length rows) rows moved directory)

-- ---- contents

-- the bytes put at an offset, and zero bytes in a gap before them
abbrev pub write_at : List ℕ → ℕ → List ℕ → List ℕ
write_at old offset [] = old
write_at old offset (byte ∷ bytes) =
    take offset old ++ replicate (offset - length old) 0 ++ (byte ∷ bytes) ++ drop (offset + length (byte ∷ bytes)) old

-- cut to a length, or filled up to it with zero bytes
abbrev pub resize_to : List ℕ → ℕ → List ℕ
resize_to old len = take len old ++ replicate (len - length old) 0

-- the bytes from an offset, at most so many, and none from the end on
abbrev pub bytes_in : List ℕ → ℕ → ℕ → List ℕ
bytes_in contents offset len = take len (drop offset contents)

-- ---- the names in a directory

-- a name put before the first that comes after it
abbrev pub insert_name : NamedNode → List NamedNode → List NamedNode
insert_name named [] = named ∷ []
insert_name named (first ∷ others) =
    if is_lt (slice_cmp nat_cmp named.name first.name) then named ∷ first ∷ others else first ∷ insert_name named others

-- the names in a directory and their nodes, in the byte order of the names
abbrev pub names_in : Nodes → ℕ → List NamedNode
names_in [] directory = []
names_in (row ∷ rows) directory =
    if row.1.place.directory == directory
    then insert_name (record { name = row.1.place.name; node = record { 0 = row.0 } }) (names_in rows directory)
    else names_in rows directory

-- ---- refusals, in their order

abbrev pub file_tests : Nodes → ℕ → Tests
file_tests rows number = (is_none (node_at rows number), NoNode) ∷ (is_directory (node_at rows number), IsDirectory) ∷ []

abbrev pub directory_tests : Nodes → ℕ → Tests
directory_tests rows number = (is_none (node_at rows number), NoNode) ∷ (not (is_directory (node_at rows number)), NotDirectory) ∷ []

abbrev pub name_tests : Nodes → ℕ → List ℕ → Tests
name_tests rows directory name = directory_tests rows directory ++ (not (is_node_name name), BadName) ∷ []

-- the length of contents after so many bytes were written at an offset
abbrev pub length_after : ℕ → ℕ → ℕ → ℕ
length_after old offset len = if len == 0 then old else max old (offset + len)

-- the end of what the file is to have, and all contents with the new length instead of the old one
abbrev pub length_tests : Nodes → ℕ → ℕ → ℕ → Tests
length_tests rows number end len =
    (nat_lt most_bytes end, TooBig) ∷ (nat_lt most_bytes_together (contents_sum rows - length (contents_of (node_at rows number)) + len), TreeFull) ∷ []

abbrev pub write_tests : Nodes → ℕ → ℕ → List ℕ → Tests
write_tests rows number offset bytes =
    file_tests rows number
    ++ length_tests rows number (offset + length bytes) (length_after (length (contents_of (node_at rows number))) offset (length bytes))

abbrev pub truncate_tests : Nodes → ℕ → ℕ → Tests
truncate_tests rows number len = file_tests rows number ++ length_tests rows number len len

abbrev pub lookup_tests : Nodes → ℕ → List ℕ → Tests
lookup_tests rows directory name = name_tests rows directory name ++ (is_none (child_of rows directory name), NoEntry) ∷ []

abbrev pub make_tests : FileTree → ℕ → List ℕ → Tests
make_tests tree directory name =
    name_tests tree.rows directory name ++ (is_some (child_of tree.rows directory name), Exists) ∷ (is_full tree, TreeFull) ∷ []

abbrev pub unlink_tests : Nodes → ℕ → List ℕ → Tests
unlink_tests rows directory name =
    let child = child_of rows directory name in
    name_tests rows directory name ++ (is_none child, NoEntry) ∷ (has_names rows (unwrap_or child 0), NotEmpty) ∷ []

abbrev pub rename_tests : Nodes → ℕ → List ℕ → ℕ → List ℕ → Tests
rename_tests rows directory name target renamed =
    let child = child_of rows directory name in
    name_tests rows directory name ++ name_tests rows target renamed
    ++ (is_none child, NoEntry)
    ∷ (is_into_itself rows (unwrap_or child 0) target, IntoItself)
    ∷ (is_some (child_of rows target renamed), Exists)
    ∷ []

-- the tests of an operation, in their order
abbrev pub tests_of : FileTree → TreeOp → Tests
tests_of tree (Read file offset len) = file_tests tree.rows file.0
tests_of tree (Write file offset bytes) = write_tests tree.rows file.0 offset bytes
tests_of tree (Truncate file len) = truncate_tests tree.rows file.0 len
tests_of tree (ListOf directory) = directory_tests tree.rows directory.0
tests_of tree (Lookup directory name) = lookup_tests tree.rows directory.0 name
tests_of tree (Create directory name) = make_tests tree directory.0 name
tests_of tree (Mkdir directory name) = make_tests tree directory.0 name
tests_of tree (Unlink directory name) = unlink_tests tree.rows directory.0 name
tests_of tree (Rename directory name target renamed) = rename_tests tree.rows directory.0 name target.0 renamed

abbrev pub tree_refusal : FileTree → TreeOp → Option Refusal
tree_refusal tree op = first_of (tests_of tree op)

-- ---- replies

abbrev pub tree_reply : FileTree → TreeOp → TreeReply
tree_reply tree (Read file offset len) = BytesOf (bytes_in (contents_of (node_at tree.rows file.0)) offset len)
tree_reply tree (Write file offset bytes) = Done
tree_reply tree (Truncate file len) = Done
tree_reply tree (ListOf directory) = NamesOf (names_in tree.rows directory.0)
tree_reply tree (Lookup directory name) = NodeOf (record { 0 = unwrap_or (child_of tree.rows directory.0 name) 0 })
tree_reply tree (Create directory name) = NodeOf (record { 0 = tree.next })
tree_reply tree (Mkdir directory name) = NodeOf (record { 0 = tree.next })
tree_reply tree (Unlink directory name) = Done
tree_reply tree (Rename directory name target renamed) = Done

-- ---- changes

-- what an operation changes
pub data TreeChange : Type 0 where
  nothing : TreeChange
  -- a new node of that kind, without contents, at that place
  add : Kind → Place → TreeChange
  -- the node has those contents
  fill : ℕ → List ℕ → TreeChange
  -- the node goes
  remove : ℕ → TreeChange
  -- the node stands at that place
  move : ℕ → Place → TreeChange

abbrev pub change_of : FileTree → TreeOp → TreeChange
change_of tree (Read file offset len) = nothing
change_of tree (Write file offset bytes) = fill file.0 (write_at (contents_of (node_at tree.rows file.0)) offset bytes)
change_of tree (Truncate file len) = fill file.0 (resize_to (contents_of (node_at tree.rows file.0)) len)
change_of tree (ListOf directory) = nothing
change_of tree (Lookup directory name) = nothing
change_of tree (Create directory name) = add File (at directory.0 name)
change_of tree (Mkdir directory name) = add Directory (at directory.0 name)
change_of tree (Unlink directory name) = remove (unwrap_or (child_of tree.rows directory.0 name) 0)
change_of tree (Rename directory name target renamed) = move (unwrap_or (child_of tree.rows directory.0 name) 0) (at target.0 renamed)

-- a new node of that kind at that place
abbrev pub new_node : Kind → Place → Node
new_node kind place = record { kind = kind; place = place; contents = [] }

abbrev pub with_contents : List ℕ → Node → Node
with_contents contents node = record node { contents = contents }

abbrev pub with_place : Place → Node → Node
with_place place node = record node { place = place }

-- the rows with the value under that number revised
abbrev pub revise : {Value : Type 0} → ℕ → (Value → Value) → List (ℕ × Value) → List (ℕ × Value)
revise number revision [] = []
revise number revision (row ∷ rows) =
    if nat_eq number row.0 then (row.0, revision row.1) ∷ rows else row ∷ revise number revision rows

-- the tree after a change; a new node takes the next number
abbrev pub changed_tree : TreeChange → FileTree → FileTree
changed_tree nothing tree = tree
changed_tree (add kind place) tree = record { rows = tree.rows ++ (tree.next, new_node kind place) ∷ []; next = tree.next + 1 }
changed_tree (fill number contents) tree = record { rows = revise number (with_contents contents) tree.rows; next = tree.next }
changed_tree (remove number) tree = record { rows = remove_entry (nat_eq number) tree.rows; next = tree.next }
changed_tree (move number place) tree = record { rows = revise number (with_place place) tree.rows; next = tree.next }

-- the tree after an operation that is not refused
abbrev pub tree_after : FileTree → TreeOp → FileTree
tree_after tree op = changed_tree (change_of tree op) tree

-- what the operation does to the tree
abbrev pub tree_effect : FileTree → TreeOp → Outcome TreeReply FileTree
tree_effect tree op = outcome (tree_refusal tree op) (tree_reply tree op) (tree_after tree op)

-- the tree with the root alone
abbrev pub fresh_tree : FileTree
fresh_tree = record { rows = (root_number, root) ∷ []; next = root_number + 1 }
