use Rattle.std.proofs.Common.{◌≡◌, ℕ, ◌-◌, ◌≤◌, [], get_or, length}
use Rattle.merkle_sig.specs.Nodes.{AreParents}
use Rattle.merkle_sig.proofs.tree.add_parents.Given as goal

abbrev pub invariant-loop-step : goal.invariant-loop-step
invariant-loop-step l = record {
  kept : length l.nodes ≡ length l.fn.nodes;
  parents : AreParents l.width (l.width - l.step) l.nodes;
  leaves : (n : ℕ) → l.width ≤ n → get_or l.nodes n [] ≡ get_or l.fn.nodes n [];
}
