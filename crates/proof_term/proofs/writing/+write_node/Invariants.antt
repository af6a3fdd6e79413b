-- Each premise has fewer nodes.
use Rattle.proof_term.specs.Proof.{proof_view}
use Rattle.proof_term.specs.Limits.{size}
use Rattle.proof_term.proofs.writing.+write_node.Given as goal

abbrev pub decreases-write_node : goal.decreases-write_node
decreases-write_node l = size (proof_view l.p.now)
