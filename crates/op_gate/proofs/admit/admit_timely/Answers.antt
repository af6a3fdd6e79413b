-- The operation is decided as if it came now, at its own moment.
use Rattle.std.proofs.Common.{subst}
use Rattle.std.specs.Prelude.{ℤ}
use Rattle.std.specs.Int.{w64}
use Rattle.std.proofs.lemmas.Int.{to_z-of_z}
use Rattle.access_history.specs.declared.request.StepRequest.TheVariants.{Act}
use Rattle.access_history.specs.History.{authority_of}
use Rattle.access_history.proofs.LawfulLemmas.{IsLawfulBase-lawful}
use Rattle.op_gate.specs.declared.planned.DecisionPlan.TheVariants.{Answer, Keep}
use Rattle.op_gate.specs.Decision.{IsPlanned}
use Rattle.op_gate.proofs.AdmitLemmas.{acted_pending, acted_damaged}
use Rattle.op_gate.proofs.admit.admit_timely.Goals as goal

pub returns-in-Keep-clause-pending : goal.returns-in-Keep-clause-pending
returns-in-Keep-clause-pending c =
    let h = c.args.history.now in
    let after = c.decide_act.new.history in
    acted_pending h after c.args.pass c.args.caller c.args.op c.args.procaps c.args.moment c.in-Keep.field-0 c.in-Keep.pending
    (IsLawfulBase-lawful (authority_of h) h.base h.events c.lemma_is_lawful.ensures) c.requires.timely c.is_formed.ensures.named c.is_formed.ensures.operation
    (subst (λ (m : ℤ). IsPlanned h c.args.pass m (Act c.args.caller c.args.op c.args.procaps) (Keep c.in-Keep.field-0 c.in-Keep.pending) after) (to_z-of_z w64 c.args.moment c.ranges.moment) c.in-Keep.ensures.planned)

pub returns-in-Answer-clause-pending : goal.returns-in-Answer-clause-pending
returns-in-Answer-clause-pending c =
    let h = c.args.history.now in
    let after = c.decide_act.new.history in
    acted_damaged h after c.args.pass c.args.caller c.args.op c.args.procaps c.args.moment c.in-Answer.field-0 c.requires.counted c.requires.timely
    (subst (λ (m : ℤ). IsPlanned h c.args.pass m (Act c.args.caller c.args.op c.args.procaps) (Answer c.in-Answer.field-0) after) (to_z-of_z w64 c.args.moment c.ranges.moment) c.in-Answer.ensures.planned)
