use Rattle.std.proofs.Common.{◌≢◌, ◌-◌, ◌+◌, [], arith, ◌∙◌, get_or-set_other}
use Rattle.std.proofs.lemmas.List.{length-set}
use Rattle.merkle_sig.proofs.NodesLemmas.{AreParents-set}
use Rattle.merkle_sig.proofs.tree.add_parents.Goals as goal

pub loop-step-preserved : goal.loop-step-preserved
loop-step-preserved c =
    let place = c.args.width - c.loop-step.step in
    record {
      kept = length-set c.loop-step.nodes place c.parent.result ∙ c.loop-step.invariant.kept;
      parents = AreParents-set c.args.width place (c.args.width - (c.loop-step.step + 1)) c.loop-step.nodes c.parent.result (omega arith) (omega arith) c.parent.ensures c.loop-step.invariant.parents;
      leaves = λ n h. let ne : n ≢ place = omega arith in get_or-set_other c.loop-step.nodes place n c.parent.result [] ne ∙ c.loop-step.invariant.leaves n h;
    }
