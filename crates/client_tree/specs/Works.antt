-- Operations with the procaps that they bring (this project's own).
use Rattle.std.specs.Prelude.{◌≡◌, ℕ, ◌+◌, List, [], ◌∷◌, Some}
use Rattle.bl_syntax.specs.declared.terms.NodeId.{NodeId}
use Rattle.bl_syntax.specs.declared.terms.Perm.{Perm}
use Rattle.file_world.specs.declared.operation.Op.{Op}
use Rattle.file_world.specs.declared.operation.Op.TheVariants.{Unlink, Rename}
use Rattle.file_world.specs.Needs.{needs, need}
use Rattle.file_world.specs.Needs.{Need as ServersNeed}
use Rattle.file_world.specs.TreeEffect.{child_of}
use Rattle.file_world.specs.World.{World, tree_of}
use Rattle.client_tree.specs.declared.asking.Need.{Need}
use Rattle.client_tree.specs.declared.asking.Work.{Work}

-- the need is the one of this permission on this node
pub record IsNeed (node : NodeId) (permission : Perm) (one : Need) : Type 0 where
  pub node_is : one.node ≡ node
  pub permission_is : one.permission ≡ permission

-- the server needs one permission for the operation, on this node
abbrev pub NeedsOne : Op → NodeId → Perm → Type 0
NeedsOne op node permission = (world : World) → needs world op ≡ need 1 node permission ∷ []

-- the needs as the server counts them, the first at that place
abbrev pub in_order : ℕ → List Need → List ServersNeed
in_order place [] = []
in_order place (one ∷ others) = need place one.node one.permission ∷ in_order (place + 1) others

-- what the operation takes a name from is the node, if it takes a name from one
abbrev pub IsTarget : World → NodeId → Op → Type 0
IsTarget world node (Unlink directory name) = child_of (tree_of world).rows directory.0 name ≡ Some (node.0)
IsTarget world node (Rename directory name target renamed) = child_of (tree_of world).rows directory.0 name ≡ Some (node.0)
IsTarget world node _ = Unit {0}

-- these are the needs that the server has for the operation, in its order; of one that takes a name
-- away, if that is still the name of the node
pub record AreNeedsOf (op : Op) (wanted : List Need) : Type 0 where
  pub node : NodeId
  pub each : (world : World) → IsTarget world node op → in_order 1 wanted ≡ needs world op

-- the work brings a procap for each need that the server has
abbrev pub AsksAsNeeded : Work → Type 0
AsksAsNeeded work = AreNeedsOf work.op work.needs.items

-- the work is this operation, and brings a procap for each need that the server has
pub record IsWorkOf (op : Op) (work : Work) : Type 0 where
  pub op_is : work.op ≡ op
  pub as_needed : AsksAsNeeded work
