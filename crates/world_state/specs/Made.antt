-- What a world is made of: two halves, or rows (this project's own).
use Rattle.std.specs.Prelude.{◌≡◌, ℕ, List, ◌∷◌, Bool, true, false, Result, Ok, Err}
use Rattle.file_world.specs.Attributes.{Marks}
use Rattle.file_world.specs.Tree.{FileTree}
use Rattle.file_world.specs.World.{World, IsWorld}
use Rattle.node_rows.specs.declared.rows.TreeRow.{TreeRow}
use Rattle.node_rows.specs.declared.rows.MetaRow.{MetaRow}
use Rattle.node_rows.specs.declared.rows.RowsFault.{RowsFault}
use Rattle.node_rows.specs.declared.rows.RowsFault.TheVariants.{NotTree, NoMemory}
use Rattle.node_rows.specs.Rows.{item_rows, AreOfSameNodes}
use Rattle.file_tree.specs.State.{directories_of_nodes}
use Rattle.attr_state.specs.State.{directories_of_marks}
use Rattle.world_state.specs.Halves.{joined}
use Rattle.world_state.specs.State.{WorldState, settled}

-- the tree and the marks have the same nodes, each in the same directory
abbrev pub HaveSameNodes : FileTree → Marks → Type 0
HaveSameNodes tree marks = directories_of_nodes tree.rows ≡ directories_of_marks marks

-- the world of the two halves, which have the same nodes; or they differ
abbrev pub JoinsHalves : FileTree → Marks → Result WorldState RowsFault → Type 0
JoinsHalves tree marks (Ok state) = HaveSameNodes tree marks × (state ≡ settled (joined tree marks))
JoinsHalves tree marks (Err NotTree) = HaveSameNodes tree marks → ⊥
JoinsHalves tree marks (Err NoMemory) = ⊥

-- the world of the rows, with that number for the next node
abbrev pub world_of_rows : ℕ → List TreeRow → List MetaRow → World
world_of_rows next trees metas = record { rows = item_rows trees metas; next = next }

-- the rows are of the same nodes and make a world within the limits; or they do not; or there was
-- no memory
abbrev pub MakesWorld : ℕ → List TreeRow → List MetaRow → Result WorldState RowsFault → Type 0
MakesWorld next trees metas (Ok state) = AreOfSameNodes trees metas ×
    (IsWorld (world_of_rows next trees metas) × (state ≡ settled (world_of_rows next trees metas)))
MakesWorld next trees metas (Err NotTree) = AreOfSameNodes trees metas →
    IsWorld (world_of_rows next trees metas) → ⊥
MakesWorld next trees metas (Err NoMemory) = Unit {0}

-- the node is the first that was left, or it is not
abbrev pub IsNext : ℕ × ℕ → List (ℕ × ℕ) → Bool → List (ℕ × ℕ) → Type 0
IsNext node old true new = old ≡ node ∷ new
IsNext node old false new = (others : List (ℕ × ℕ)) → old ≡ node ∷ others → ⊥
