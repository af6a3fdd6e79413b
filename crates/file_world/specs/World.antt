-- The world of the server: its nodes with all that is kept of them, and the number of the next one
-- (this project's own).
use Rattle.std.specs.Prelude.{ℕ, List, [], ◌∷◌, ◌+◌, map, codes}
use Rattle.file_world.specs.declared.operation.Kind.{Kind}
use Rattle.file_world.specs.declared.operation.Kind.TheVariants.{Directory}
use Rattle.file_world.specs.Limits.{root_number}
use Rattle.file_world.specs.Tree.{Place, Node, FileTree, IsTree}
use Rattle.file_world.specs.Attributes.{Attributes, Mark, Marks, AreMarks}

-- all that is kept of a node
pub record Item : Type 0 where
  pub kind : Kind
  pub owner : List ℕ
  pub attributes : Attributes
  pub place : Place
  pub contents : List ℕ

-- the nodes under their numbers in the order in which they were made, and the number of the next
-- one
pub record World : Type 0 where
  pub rows : List (ℕ × Item)
  pub next : ℕ

-- what the tree keeps of a node
abbrev pub node_of : Item → Node
node_of item = record { kind = item.kind; place = item.place; contents = item.contents }

-- what policy can speak of beside names and contents
abbrev pub mark_of : Item → Mark
mark_of item = record { owner = item.owner; parent = item.place.directory; attributes = item.attributes }

-- the tree in the world
abbrev pub tree_of : World → FileTree
tree_of world = record { rows = map (λ row. (row.0, node_of row.1)) world.rows; next = world.next }

-- the owners and attributes in the world
abbrev pub marks_of : World → Marks
marks_of world = map (λ row. (row.0, mark_of row.1)) world.rows

-- a tree within the limits, each node of which has an owner and few attributes
pub record IsWorld (world : World) : Type 0 where
  pub tree : IsTree (tree_of world)
  pub marks : AreMarks (marks_of world)

-- the world with the root alone, which `admin` owns
abbrev pub fresh_world : World
fresh_world = record {
  rows = (
    root_number,
    record {
      kind = Directory;
      owner = codes "admin";
      attributes = [];
      place = record { directory = 0; name = [] };
      contents = [];
    },
  ) ∷ [];
  next =
      root_number + 1;
}
