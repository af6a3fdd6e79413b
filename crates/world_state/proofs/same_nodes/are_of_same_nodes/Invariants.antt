-- Both halves have the same nodes exactly if those that are left are the same.
use Rattle.std.proofs.Common.{◌≡◌, ◌↔◌, length}
use Rattle.world_state.proofs.same_nodes.are_of_same_nodes.Given as goal

abbrev pub invariant-loop-node : goal.invariant-loop-node
invariant-loop-node l = (l.initial.nodes ≡ l.initial.marks) ↔ (l.nodes ≡ l.marks)

abbrev pub decreases-loop-node : goal.decreases-loop-node
decreases-loop-node l = length l.nodes
