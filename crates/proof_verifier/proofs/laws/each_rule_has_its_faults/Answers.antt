use Rattle.std.proofs.Common.{refl}
use Rattle.proof_verifier.specs.Verdict.{answer}
use Rattle.proof_verifier.specs.Entailed.{is_entailed}
use Rattle.proof_verifier.proofs.laws.each_rule_has_its_faults.Goals as goal

pub returns : goal.returns
unfolding answer is_entailed
returns c = (refl, (refl, (refl, (refl, (refl, (refl, (refl, (refl, (refl, (refl, (refl, (refl, (refl, (refl, (refl, (refl, (refl, (refl, (refl, (refl, (refl, (refl, (refl, (refl, (refl, (refl, (refl, (refl, (refl, (refl, (refl, (refl, (refl, (refl, (refl, (refl, (refl, (refl, (refl, (refl, (refl, (refl, (refl, (refl, (refl, (refl, (refl, (refl, (refl, (refl, (refl, (refl, (refl, (refl, (refl, (refl, (refl, tt)))))))))))))))))))))))))))))))))))))))))))))))))))))))))
