use Rattle.std.proofs.Common.{refl}
use Rattle.proof_verifier.specs.Verdict.{answer}
use Rattle.proof_verifier.specs.Entailed.{is_entailed}
use Rattle.proof_verifier.proofs.laws.another_goal_is_a_wrong_shape.Goals as goal

pub returns : goal.returns
unfolding answer is_entailed
returns c = refl
