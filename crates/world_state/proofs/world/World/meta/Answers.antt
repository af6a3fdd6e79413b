-- Owners and attributes are one half of the world.
use Rattle.world_state.proofs.HalvesLemmas.{meta_shown, whole_shown}
use Rattle.world_state.proofs.world.World.meta.Goals as goal

pub returns-clause-same : goal.returns-clause-same
returns-clause-same c = meta_shown c.self.inside.tree c.self.inside.meta _ c.self.invariant c.self.view_is

pub returns-clause-whole : goal.returns-clause-whole
returns-clause-whole c = whole_shown c.self.inside.tree c.self.inside.meta _ c.self.invariant c.self.view_is
