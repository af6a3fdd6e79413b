use Rattle.std.proofs.Common.{refl}
use Rattle.proof_verifier.specs.Verdict.{answer}
use Rattle.proof_verifier.specs.Entailed.{is_entailed}
use Rattle.proof_verifier.proofs.laws.an_employee_may_read.Goals as goal

pub returns : goal.returns
unfolding answer is_entailed
returns c = refl
