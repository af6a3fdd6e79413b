-- Halves of the same nodes are those of one world.
use Rattle.world_state.proofs.MadeLemmas.{AreHalves-from}
use Rattle.world_state.proofs.world.World.from_parts.Goals as goal

pub invariant_of-result : goal.invariant_of-result
invariant_of-result c = AreHalves-from _ _ c.are_of_same_nodes.ensures.whole c.are_of_same_nodes.ensures.within (c.are_of_same_nodes.ensures.same.0 c.if-are_of_same_nodes.true)
