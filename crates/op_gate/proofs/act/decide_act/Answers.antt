-- What is not admitted is denied.
use Rattle.std.proofs.Common.{subst}
use Rattle.std.specs.Prelude.{ℤ}
use Rattle.std.specs.Int.{w64}
use Rattle.std.proofs.lemmas.Int.{to_z-of_z}
use Rattle.access_history.specs.Answer.{moment_of}
use Rattle.access_history.specs.History.{authority_of, state_of}
use Rattle.op_gate.specs.Decision.{IsDenial}
use Rattle.op_gate.proofs.ActLemmas.{denied_decided}
use Rattle.op_gate.proofs.act.decide_act.Goals as goal

pub returns-in-Some-clause-planned : goal.returns-in-Some-clause-planned
returns-in-Some-clause-planned c =
    let h = c.args.history.now in
    denied_decided (authority_of h) (state_of h) c.args.pass c.args.clock c.args.caller c.args.op c.args.procaps c.in-Some.denial
    (subst (λ (z : ℤ). IsDenial h.key (state_of h) c.args.caller c.args.op c.args.procaps (moment_of (state_of h) z) c.in-Some.denial) (to_z-of_z w64 c.args.clock c.ranges.clock) c.in-Some.ensures)
