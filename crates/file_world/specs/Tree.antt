-- The file tree as plain data, and what keeps it a tree within its limits (this project's own).
use Rattle.std.specs.Prelude.{◌≡◌, ◌≢◌, ◌<◌, ◌≤◌, ℕ, List, [], length, map, sum_by, Bool, IsTrue, nat_eq, ◌&&◌, ◌==◌, Option, Some}
use Rattle.std.specs.List.{IsDistinct}
use Rattle.std.specs.List.Sorted.{IsStrictlySortedBy}
use Rattle.std.specs.Map.{lookup, keys_of}
use Rattle.std.specs.Ordering.{nat_cmp}
use Rattle.std.specs.Str.{bytes_eq}
use Rattle.file_world.specs.declared.operation.Kind.{Kind}
use Rattle.file_world.specs.declared.operation.Kind.TheVariants.{Directory}
use Rattle.file_world.specs.FileNames.{is_node_name}
use Rattle.file_world.specs.Limits.{root_number, most_nodes, most_bytes, most_bytes_together, last_number}

-- where a node hangs: the number of its directory, and its name there
pub record Place : Type 0 where
  pub directory : ℕ
  pub name : List ℕ

-- what the tree keeps of a node
pub record Node : Type 0 where
  pub kind : Kind
  pub place : Place
  pub contents : List ℕ

-- nodes under their numbers
abbrev pub Nodes : Type 0
Nodes = List (ℕ × Node)

-- the nodes in the order in which they were made, and the number of the next one
pub record FileTree : Type 0 where
  pub rows : Nodes
  pub next : ℕ

-- the node of that number
abbrev pub node_at : Nodes → ℕ → Option Node
node_at rows number = lookup (nat_eq number) rows

abbrev pub is_place : Place → Place → Bool
is_place place other = (place.directory == other.directory) && bytes_eq place.name other.name

-- each node's number under its place
abbrev pub places_of : Nodes → List (Place × ℕ)
places_of rows = map (λ row. (row.1.place, row.0)) rows

-- the number of the node at that place
abbrev pub number_at : Nodes → Place → Option ℕ
number_at rows place = lookup (is_place place) (places_of rows)

-- how many bytes all contents have together
abbrev pub contents_sum : Nodes → ℕ
contents_sum rows = sum_by (λ row. length row.1.contents) rows

-- following directories from the node of that number leads to the root
pub data ReachesRoot (rows : Nodes) : ℕ → Type 0 where
  at_root : ReachesRoot rows root_number
  below : (number : ℕ) (node : Node) → node_at rows number ≡ Some node → (directory : Node) →
      node_at rows node.place.directory ≡ Some directory → directory.kind ≡ Directory →
      ReachesRoot rows node.place.directory → ReachesRoot rows number

-- the root: a directory without directory and name
abbrev pub root : Node
root = record { kind = Directory; place = record { directory = 0; name = [] }; contents = [] }

-- what holds of the node of a number
pub record IsSound (tree : FileTree) (number : ℕ) (node : Node) : Type 0 where
  pub reached : ReachesRoot tree.rows number
  pub named : number ≢ root_number → IsTrue (is_node_name node.place.name)
  pub above_zero : 1 ≤ number
  pub below_next : number < tree.next
  pub empty : node.kind ≡ Directory → node.contents ≡ []
  pub small : length node.contents ≤ most_bytes

-- a tree within the limits
pub record IsTree (tree : FileTree) : Type 0 where
  pub has_root : node_at tree.rows root_number ≡ Some root
  pub sound : (number : ℕ) (node : Node) → node_at tree.rows number ≡ Some node →
      IsSound tree number node
  pub rising : IsStrictlySortedBy nat_cmp (keys_of tree.rows)
  pub places_differ : IsDistinct is_place (keys_of (places_of tree.rows))
  pub few : length tree.rows ≤ most_nodes
  pub fits : contents_sum tree.rows ≤ most_bytes_together
  pub next_fits : tree.next ≤ last_number
