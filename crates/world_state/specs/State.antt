-- What contracts see of a world: the plain world, and what its two halves are ready to change (this
-- project's own).
use Rattle.std.specs.Prelude.{◌≡◌, ℕ, List, Option, Some, None, Result, Ok, Err}
use Rattle.file_world.specs.declared.operation.MetaOp.{MetaOp}
use Rattle.file_world.specs.declared.operation.Op.{Op}
use Rattle.file_world.specs.declared.refusal.OpFault.{OpFault}
use Rattle.file_world.specs.declared.refusal.OpFault.TheVariants.{Refused, NoMemory}
use Rattle.file_world.specs.declared.reply.OpReply.{OpReply}
use Rattle.file_world.specs.Effect.{Part, tree_part, meta_part, part_of, refusal, reply}
use Rattle.file_world.specs.Halves.{meta_op_of}
use Rattle.file_world.specs.World.{World, tree_of, marks_of}
use Rattle.file_tree.specs.declared.ready.Ready.{Ready as TreeReady}
use Rattle.file_tree.specs.State.{TreeView, IsReady}
use Rattle.attr_state.specs.declared.ready.MetaReady.{MetaReady}
use Rattle.attr_state.specs.State.{MetaView, IsMetaReady}

-- the changes for which memory was taken, in the tree and in owners and attributes
pub record Readiness : Type 0 where
  pub tree : Option TreeReady
  pub meta : Option MetaReady

pub record WorldState : Type 0 where
  pub world : World
  pub ready : Readiness

abbrev pub nothing_ready : Readiness
nothing_ready = record { tree = None; meta = None }

-- a world that is ready for nothing
abbrev pub settled : World → WorldState
settled world = record { world = world; ready = nothing_ready }

-- the tree, and what it is ready to change
abbrev pub tree_state : WorldState → TreeView
tree_state state = record { tree = tree_of state.world; ready = state.ready.tree }

-- the marks, and what they are ready to change
abbrev pub meta_state : WorldState → MetaView
meta_state state = record { marks = marks_of state.world; ready = state.ready.meta }

abbrev pub IsTreePartReady : TreeView → Part → Type 0
IsTreePartReady tree (tree_part op) = IsReady tree op
IsTreePartReady tree (meta_part op) = Unit {0}

abbrev pub IsMetaPartReady : MetaView → Option MetaOp → Type 0
IsMetaPartReady meta None = Unit {0}
IsMetaPartReady meta (Some op) = IsMetaReady meta op

-- each half is ready for what the caller's operation does to it
pub record AreReady (caller : List ℕ) (tree : TreeView) (meta : MetaView) (part : Part) : Type 0 where
  pub tree_ready : IsTreePartReady tree part
  pub meta_ready : IsMetaPartReady meta (meta_op_of caller tree.tree part)

-- the world is ready for the caller's operation
abbrev pub IsWorldReady : List ℕ → WorldState → Op → Type 0
IsWorldReady caller state op = AreReady caller (tree_state state) (meta_state state) (part_of op)

-- the operation got its reply and the world is ready for it; or it is refused, and its first
-- refusal is reported; or out of memory
abbrev pub ReservesWorld : List ℕ → World → Op → Result OpReply OpFault → WorldState → Type 0
ReservesWorld caller world op (Ok told) after = (refusal world op ≡ None) ×
    (told ≡ reply world op) × IsWorldReady caller after op
ReservesWorld caller world op (Err (Refused refused)) after = refusal world op ≡ Some refused
ReservesWorld caller world op (Err NoMemory) after = refusal world op ≡ None
