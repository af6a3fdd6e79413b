use Rattle.std.proofs.Common.{refl}
use Rattle.proof_verifier.specs.Verdict.{answer}
use Rattle.proof_verifier.specs.Entailed.{is_entailed}
use Rattle.proof_verifier.proofs.laws.a_condition_on_a_parameter_is_a_fault.Goals as goal

pub returns-clause-fault : goal.returns-clause-fault
unfolding answer is_entailed
returns-clause-fault c = refl

pub returns-clause-accepted : goal.returns-clause-accepted
unfolding answer is_entailed
returns-clause-accepted c = refl
