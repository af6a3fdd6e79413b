-- The tree is one half of the world.
use Rattle.world_state.proofs.HalvesLemmas.{tree_shown, whole_shown}
use Rattle.world_state.proofs.world.World.tree.Goals as goal

pub returns-clause-same : goal.returns-clause-same
returns-clause-same c = tree_shown c.self.inside.tree c.self.inside.meta _ c.self.invariant c.self.view_is

pub returns-clause-whole : goal.returns-clause-whole
returns-clause-whole c = whole_shown c.self.inside.tree c.self.inside.meta _ c.self.invariant c.self.view_is
