use Rattle.std.proofs.lemmas.Bool.Decides.{same_from_decides}
use Rattle.proof_verifier.specs.Entailed.{is_entailed}
use Rattle.proof_verifier.proofs.EntailedLemmas.{Decides-is_entailed}
use Rattle.proof_verifier.proofs.conditions.is_entailed.Goals as goal

pub returns : goal.returns
returns c =
    same_from_decides c.entails.result (is_entailed c.args.constraints.now c.args.u.now c.args.v.now) c.entails.ensures
    (Decides-is_entailed c.args.constraints.now c.args.u.now c.args.v.now)
