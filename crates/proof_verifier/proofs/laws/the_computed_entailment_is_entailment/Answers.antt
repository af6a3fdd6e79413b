use Rattle.proof_verifier.proofs.EntailedLemmas.{Decides-is_entailed}
use Rattle.proof_verifier.proofs.laws.the_computed_entailment_is_entailment.Goals as goal

pub returns : goal.returns
returns c = Decides-is_entailed
