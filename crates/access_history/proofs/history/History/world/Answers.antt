-- The world is that of the state.
use Rattle.std.proofs.Common.{ap, ◌∙◌}
use Rattle.access_history.specs.History.{world_of}
use Rattle.access_history.proofs.HistoryLemmas.{world_shown}
use Rattle.access_history.proofs.history.History.world.Goals as goal

pub returns : goal.returns
returns c = world_shown c.self.inside c.self.invariant ∙ ap world_of c.self.view_is
