use Rattle.proof_verifier.specs.Cited.{statements_of}
use Rattle.proof_verifier.proofs.IsGrantedLemmas.{as_verdict}
use Rattle.proof_verifier.proofs.root.grant_of.Goals as goal

pub returns-clause-verdict : goal.returns-clause-verdict
returns-clause-verdict c =
    as_verdict (statements_of c.args.cites.now) c.args.goal.now c.args.proof.now c.follow_from_root.result c.follow_from_root.ensures.statements c.follow_from_root.ensures.kept
    c.follow_from_root.ensures.verdict
