-- The names of nodes as rows have them (this project's own).
use Rattle.std.specs.Prelude.{ℕ, List, [], ◌∷◌, Bool, true}
use Rattle.file_world.specs.FileNames.{is_node_name}

-- whether the bytes name a node, or are the root's name, which is empty
abbrev pub is_name_or_none : List ℕ → Bool
is_name_or_none [] = true
is_name_or_none (byte ∷ bytes) = is_node_name (byte ∷ bytes)
