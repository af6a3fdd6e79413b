-- The rows of both halves are of the same nodes, which are the world's.
use Rattle.std.proofs.Common.{ap}
use Rattle.world_state.specs.State.{WorldState}
use Rattle.world_state.proofs.MadeLemmas.{rows_of_halves}
use Rattle.world_state.proofs.world.World.to_rows.Goals as goal

pub returns-clause-same : goal.returns-clause-same
returns-clause-same c =
    (rows_of_halves c.self.inside.tree.tree c.self.inside.meta.marks c.args.self.now.world c.in_ok-to_rows.field-0 c.in_ok-to_rows-2.field-0 c.self.invariant
    (ap (λ (s : WorldState). s.world) c.self.view_is) c.in_ok-to_rows.ensures c.in_ok-to_rows-2.ensures).same

pub returns-clause-rows : goal.returns-clause-rows
returns-clause-rows c =
    (rows_of_halves c.self.inside.tree.tree c.self.inside.meta.marks c.args.self.now.world c.in_ok-to_rows.field-0 c.in_ok-to_rows-2.field-0 c.self.invariant
    (ap (λ (s : WorldState). s.world) c.self.view_is) c.in_ok-to_rows.ensures c.in_ok-to_rows-2.ensures).rows
