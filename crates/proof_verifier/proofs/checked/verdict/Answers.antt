use Rattle.proof_verifier.proofs.IsGrantedLemmas.{granted_if}
use Rattle.proof_verifier.proofs.checked.verdict.Goals as goal

pub returns-clause-granted : goal.returns-clause-granted
returns-clause-granted c =
    granted_if c.as_slice.result.now c.args.cited.now c.as_slice.ensures.same c.args.goal.now c.args.proof.now c.grant_of.result c.grant_of.ensures.verdict c.grant_of.ensures.statements
    c.grant_of.ensures.kept
