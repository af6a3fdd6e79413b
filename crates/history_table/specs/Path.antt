-- The path of a node: its names from the root down (this project's own).
use Rattle.std.specs.Prelude.{ℕ, zero, suc, List, [], ◌∷◌, ◌++◌, ◌==◌, codes, Option, Some, None, if◌then◌else◌}
use Rattle.std.specs.Option.{option_map}
use Rattle.file_world.specs.Limits.{most_nodes, root_number}
use Rattle.file_world.specs.Tree.{Place, Node, Nodes, node_at}
use Rattle.history_table.specs.declared.places.Spot.{Spot}

-- where the node of that number hangs; none if there is no such node
abbrev pub place_at : Nodes → ℕ → Option Place
place_at rows number = option_map (λ (node : Node). node.place) (node_at rows number)

-- the place that was found
abbrev pub place_in : Spot → Place
place_in spot = record { directory = spot.directory; name = spot.name }

-- the name, and after it those above it
abbrev pub with_name : List ℕ → Option (List (List ℕ)) → Option (List (List ℕ))
with_name name None = None
with_name name (Some above) = Some (name ∷ above)

-- the names from a place up
abbrev pub names_from : Option Place → (ℕ → Option (List (List ℕ))) → Option (List (List ℕ))
names_from None above = None
names_from (Some place) above = with_name place.name (above place.directory)

-- the names on the way from a node up to the root, its own first; none if the way does not come
-- there within so many steps
abbrev pub names_above : Nodes → ℕ → ℕ → Option (List (List ℕ))
names_above rows zero number = None
names_above rows (suc steps) number = if number == root_number then Some [] else names_from (place_at rows number) (names_above rows steps)

-- the names from the last to the first, each after a slash
abbrev pub slashed : List (List ℕ) → List ℕ
slashed [] = []
slashed (name ∷ above) = slashed above ++ (codes "/" ++ name)

-- the text of a path: a slash alone for the root
abbrev pub path_text : List (List ℕ) → List ℕ
path_text [] = codes "/"
path_text (name ∷ above) = slashed (name ∷ above)

-- how many steps are gone up: more than a tree has directories above a node
unfoldable pub most_steps : ℕ
most_steps = most_nodes

-- the path of the node of that number; none if there is no such node
abbrev pub path_of : Nodes → ℕ → Option (List ℕ)
path_of rows number = option_map path_text (names_above rows most_steps number)
