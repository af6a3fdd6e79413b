use Rattle.std.proofs.Common.{refl, inr}
use Rattle.proof_verifier.proofs.ConditionLemmas.{kept_state, no_place_for_state}
use Rattle.proof_verifier.proofs.checker.Checker.keep_state.Goals as goal

pub returns-in-Ok : goal.returns-in-Ok
returns-in-Ok c = record { granted = kept_state c.args.node c.args.self.now.grant c.add_state.new.self c.args.s c.in-Ok.ensures.ok (λ full. let refused = c.in-Ok.ensures.full.1 full in cc); sorts = refl; constraints = refl }

pub returns-in-Err-Full : goal.returns-in-Err-Full
returns-in-Err-Full c =
    let full = c.in-Err-Full.ensures.full.0 (cc) in
    inr (no_place_for_state c.args.node c.args.self.now.grant c.args.s full.0 full.1)
