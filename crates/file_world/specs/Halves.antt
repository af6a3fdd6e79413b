-- The two halves of a world, its tree and its owners and attributes: what the one does after a
-- change of the other (this project's own).
use Rattle.std.specs.Prelude.{ℕ, List, Option, Some, None, IfSome}
use Rattle.file_world.specs.declared.operation.MetaOp.{MetaOp}
use Rattle.file_world.specs.declared.operation.MetaOp.TheVariants.{Get, Set, Remove, Chown, Add, Drop, Move}
use Rattle.file_world.specs.Attributes.{Marks}
use Rattle.file_world.specs.AttributeEffect.{IsAskable, marks_after}
use Rattle.file_world.specs.Effect.{Part, tree_part, meta_part}
use Rattle.file_world.specs.Tree.{FileTree}
use Rattle.file_world.specs.TreeEffect.{TreeChange, nothing, add, fill, remove, move, change_of, tree_after}

-- what follows a change of the tree by the caller in owners and attributes, if something does
abbrev pub following : List ℕ → ℕ → TreeChange → Option MetaOp
following caller next nothing = None
following caller next (add kind place) = Some (Add (record { 0 = next }) caller (record { 0 = place.directory }))
following caller next (fill number contents) = None
following caller next (remove number) = Some (Drop (record { 0 = number }))
following caller next (move number place) = Some (Move (record { 0 = number }) (record { 0 = place.directory }))

-- the marks after what follows, which may be nothing
abbrev pub marks_followed : Marks → Option MetaOp → Marks
marks_followed marks None = marks
marks_followed marks (Some op) = marks_after marks op

-- an operation that somebody asks for, and that does not only follow the tree
abbrev pub IsDirect : MetaOp → Type 0
IsDirect (Get node name) = Unit {0}
IsDirect (Set node name value) = Unit {0}
IsDirect (Remove node name) = Unit {0}
IsDirect (Chown node owner) = Unit {0}
IsDirect (Add node owner parent) = ⊥
IsDirect (Drop node) = ⊥
IsDirect (Move node parent) = ⊥

-- the operation on owners and attributes that an operation of the caller leads to, if it leads to
-- one
abbrev pub meta_op_of : List ℕ → FileTree → Part → Option MetaOp
meta_op_of caller tree (tree_part op) = following caller tree.next (change_of tree op)
meta_op_of caller tree (meta_part op) = Some op

-- the tree after an operation that is not refused
abbrev pub tree_half_after : FileTree → Part → FileTree
tree_half_after tree (tree_part op) = tree_after tree op
tree_half_after tree (meta_part op) = tree

-- the marks may be asked for what follows
abbrev pub MetaMayFollow : Marks → Option MetaOp → Type 0
MetaMayFollow marks following = IfSome following (IsAskable marks)
