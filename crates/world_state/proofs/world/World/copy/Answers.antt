-- The copies of both halves are those of the same world, with nothing ready.
use Rattle.std.proofs.Common.{ap, ◌∙◌}
use Rattle.world_state.specs.State.{WorldState, settled}
use Rattle.world_state.proofs.MadeLemmas.{settled_halves}
use Rattle.world_state.proofs.world.World.copy.Goals as goal

pub returns : goal.returns
returns c =
    settled_halves c.self.inside.tree c.in_ok-tree.tree c.self.inside.meta c.in_ok-meta.meta c.in_ok-tree.ensures c.in_ok-meta.ensures
    ∙ ap (λ (s : WorldState). settled s.world) c.self.view_is
