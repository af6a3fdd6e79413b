use Rattle.std.proofs.Common.{◌+◌, ℕ, List, ◌∙◌, arith, subst}
use Rattle.merkle_sig.specs.Nodes.{AreLeaves, AreParents}
use Rattle.merkle_sig.proofs.NodesLemmas.{IsTree-from}
use Rattle.merkle_sig.proofs.tree.tree.Goals as goal

pub returns : goal.returns
returns c =
    let width : ℕ = c.width_of-width.result in
    let nodes : List (List ℕ) = c.add_parents.new.nodes in
    let leaves : AreLeaves c.args.seed.now width nodes width = λ k below. c.add_parents.ensures.leaves (width + k) (omega arith) ∙ c.add_leaves.ensures k below in
    IsTree-from c.args.seed.now c.args.height nodes
    (subst (λ (w : ℕ). AreLeaves c.args.seed.now w nodes w) c.width_of-width.ensures leaves)
    (subst (λ (w : ℕ). AreParents w 0 nodes) c.width_of-width.ensures c.add_parents.ensures.parents)
    (omega arith)
