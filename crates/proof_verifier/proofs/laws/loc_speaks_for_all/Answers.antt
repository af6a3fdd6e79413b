use Rattle.std.proofs.Common.{refl}
use Rattle.proof_verifier.specs.Verdict.{answer}
use Rattle.proof_verifier.specs.Entailed.{is_entailed}
use Rattle.proof_verifier.proofs.laws.loc_speaks_for_all.Goals as goal

pub returns-clause-loc : goal.returns-clause-loc
unfolding answer is_entailed
returns-clause-loc c = refl

pub returns-clause-admin : goal.returns-clause-admin
unfolding answer is_entailed
returns-clause-admin c = refl
