use Rattle.std.proofs.Common.{refl}
use Rattle.proof_verifier.specs.Verdict.{answer}
use Rattle.proof_verifier.specs.Entailed.{is_entailed}
use Rattle.proof_verifier.proofs.laws.a_grant_keeps_64_conditions.Goals as goal

pub returns-clause-kept : goal.returns-clause-kept
unfolding answer is_entailed
returns-clause-kept c = refl

pub returns-clause-fault : goal.returns-clause-fault
unfolding answer is_entailed
returns-clause-fault c = refl
