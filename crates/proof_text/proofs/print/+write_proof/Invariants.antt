-- Each premise has fewer nodes.
use Rattle.proof_term.specs.Proof.{proof_view}
use Rattle.proof_term.specs.Limits.{size}
use Rattle.proof_text.proofs.print.+write_proof.Given as goal

abbrev pub decreases-write_proof : goal.decreases-write_proof
decreases-write_proof l = size (proof_view l.p.now)
