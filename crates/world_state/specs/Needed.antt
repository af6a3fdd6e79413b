-- Needs in order, whose places follow from that order (this project's own).
use Rattle.std.specs.Prelude.{ℕ, ◌+◌, List, [], ◌∷◌, Option, Some, None}
use Rattle.bl_syntax.specs.declared.terms.NodeId.{NodeId}
use Rattle.bl_syntax.specs.declared.terms.Perm.{Perm}
use Rattle.bl_syntax.specs.declared.terms.Perm.TheVariants.{Identity}
use Rattle.file_world.specs.Needs.{Need, need}

-- nodes with permissions as needs, the first at that place
abbrev pub placed : ℕ → List (NodeId × Perm) → List Need
placed place [] = []
placed place (pair ∷ pairs) = need place pair.0 pair.1 ∷ placed (place + 1) pairs

-- the need on the child, which falls away if there is none
abbrev pub child_needed : ℕ → Option NodeId → List Need
child_needed place None = []
child_needed place (Some child) = need place child Identity ∷ []
