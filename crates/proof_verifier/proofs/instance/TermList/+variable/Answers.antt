use Rattle.std.proofs.Common.{◌∙◌, arith}
use Rattle.proof_verifier.proofs.InstanceLemmas.{variable-inner}
use Rattle.proof_verifier.proofs.instance.TermList.+variable.Goals as goal

pub returns-else-n-depth : goal.returns-else-n-depth
returns-else-n-depth t c =
    rw c.in-More.is
    (c.put_in_term-else-n-depth.ensures ∙ variable-inner c.in-More.outer.now c.args.depth c.args.n c.args.t.now c.in-More.last.now c.requires (omega arith))
