use Rattle.merkle_sig.specs.Nodes.{AreLeaves}
use Rattle.merkle_sig.proofs.tree.add_leaves.Given as goal

abbrev pub invariant-loop-place : goal.invariant-loop-place
invariant-loop-place l = AreLeaves l.seed l.width l.nodes l.place
