-- Procaps that were won (this project's own).
use Rattle.std.specs.Prelude.{◌≡◌}
use Rattle.client_home.specs.declared.passes.Pass.{Pass}
use Rattle.client_tree.specs.declared.asking.Need.{Need}
use Rattle.client_tree.specs.declared.rights.Won.{Won}
use Rattle.client_tree.specs.declared.rights.Won.TheVariants as won

-- the procap was won for the node and the permission of the need
pub record IsFor (need : Need) (pass : Pass) : Type 0 where
  pub node_is : pass.goal.file ≡ need.node
  pub permission_is : pass.goal.perm ≡ need.permission

-- what was won, if anything, was won for the need
abbrev pub IsWonFor : Need → Won → Type 0
IsWonFor need (won.Procap pass) = IsFor need pass
IsWonFor need (won.None words) = Unit {0}
