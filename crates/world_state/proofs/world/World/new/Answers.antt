-- A new tree and new marks are the halves of the world with the root alone.
use Rattle.std.proofs.Common.{ap, ap₂, ◌∙◌}
use Rattle.file_world.specs.World.{fresh_world}
use Rattle.file_world.proofs.HalvesLemmas.{IsWorld-fresh}
use Rattle.file_tree.specs.State.{TreeView}
use Rattle.attr_state.specs.State.{MetaView}
use Rattle.world_state.specs.State.{settled}
use Rattle.world_state.proofs.HalvesLemmas.{Halve-from, joined-halves, shown}
use Rattle.world_state.proofs.world.World.new.Goals as goal

pub invariant_of-result : goal.invariant_of-result
invariant_of-result c =
    (Halve-from fresh_world c.in_ok-tree.tree.tree c.in_ok-meta.meta.marks IsWorld-fresh (ap (λ (t : TreeView). t.tree) c.in_ok-tree.ensures) (ap (λ (m : MetaView). m.marks) c.in_ok-meta.ensures)).kept

pub returns : goal.returns
returns c = ap₂ shown c.in_ok-tree.ensures c.in_ok-meta.ensures ∙ ap settled (joined-halves fresh_world)
