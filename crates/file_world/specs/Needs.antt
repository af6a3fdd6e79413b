-- Which permissions an operation needs, and on which nodes (this project's own).
use Rattle.std.specs.Prelude.{ℕ, List, [], ◌∷◌, length, Option, Some, None, if◌then◌else◌}
use Rattle.bl_syntax.specs.declared.terms.NodeId.{NodeId}
use Rattle.bl_syntax.specs.declared.terms.Perm.{Perm}
use Rattle.bl_syntax.specs.declared.terms.Perm.TheVariants as perm
use Rattle.file_world.specs.declared.operation.Op.{Op}
use Rattle.file_world.specs.declared.operation.Op.TheVariants.{Read, Write, Truncate, List as ListOf, Lookup, Create, Mkdir, Unlink, Rename, Getattr, Setattr, Delattr, Chown}
use Rattle.file_world.specs.FileNames.{is_policy_name}
use Rattle.file_world.specs.TreeEffect.{child_of}
use Rattle.file_world.specs.World.{World, tree_of}

-- a permission on a node, and the place of the procap that is to give it, from 1
pub record Need : Type 0 where
  pub place : ℕ
  pub file : NodeId
  pub permission : Perm

abbrev pub need : ℕ → NodeId → Perm → Need
need place file permission = record { place = place; file = file; permission = permission }

-- the need on the named child, which falls away if there is none
abbrev pub child_need : ℕ → Option ℕ → List Need
child_need place None = []
child_need place (Some child) = need place (record { 0 = child }) perm.Identity ∷ []

-- what a change of the attribute needs
abbrev pub attribute_permission : List ℕ → Perm
attribute_permission name = if is_policy_name name then perm.Govern else perm.Write

-- what the operation needs in this world, in order
abbrev pub needs : World → Op → List Need
needs world (Read file offset len) = need 1 file perm.Read ∷ []
needs world (Write file offset bytes) = need 1 file perm.Write ∷ []
needs world (Truncate file len) = need 1 file perm.Write ∷ []
needs world (ListOf directory) = need 1 directory perm.Read ∷ []
needs world (Lookup directory name) = need 1 directory perm.Execute ∷ []
needs world (Create directory name) = need 1 directory perm.Write ∷ []
needs world (Mkdir directory name) = need 1 directory perm.Write ∷ []
needs world (Unlink directory name) =
    need 1 directory perm.Write ∷ child_need 2 (child_of (tree_of world).rows directory.0 name)
needs world (Rename directory name target renamed) =
    need 1 directory perm.Write ∷ need 2 target perm.Write ∷ child_need 3 (child_of (tree_of world).rows directory.0 name)
needs world (Getattr node name) = need 1 node perm.Read ∷ []
needs world (Setattr node name value) = need 1 node (attribute_permission name) ∷ []
needs world (Delattr node name) = need 1 node (attribute_permission name) ∷ []
needs world (Chown node owner) = need 1 node perm.Govern ∷ []

-- how many procaps the operation brings: one for each need, also for one that falls away
abbrev pub slots : Op → ℕ
slots (Read file offset len) = 1
slots (Write file offset bytes) = 1
slots (Truncate file len) = 1
slots (ListOf directory) = 1
slots (Lookup directory name) = 1
slots (Create directory name) = 1
slots (Mkdir directory name) = 1
slots (Unlink directory name) = 2
slots (Rename directory name target renamed) = 3
slots (Getattr node name) = 1
slots (Setattr node name value) = 1
slots (Delattr node name) = 1
slots (Chown node owner) = 1

-- how many bytes it brings to be written into a file
abbrev pub bytes_to_write : Op → ℕ
bytes_to_write (Read file offset len) = 0
bytes_to_write (Write file offset bytes) = length bytes
bytes_to_write (Truncate file len) = 0
bytes_to_write (ListOf directory) = 0
bytes_to_write (Lookup directory name) = 0
bytes_to_write (Create directory name) = 0
bytes_to_write (Mkdir directory name) = 0
bytes_to_write (Unlink directory name) = 0
bytes_to_write (Rename directory name target renamed) = 0
bytes_to_write (Getattr node name) = 0
bytes_to_write (Setattr node name value) = 0
bytes_to_write (Delattr node name) = 0
bytes_to_write (Chown node owner) = 0
