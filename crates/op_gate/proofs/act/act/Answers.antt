-- The operation is refused, or done.
use Rattle.std.proofs.Common.{rules, subst, sym}
use Rattle.access_history.specs.declared.request.StepRequest.TheVariants.{Act}
use Rattle.op_gate.specs.declared.planned.DecisionPlan.{DecisionPlan}
use Rattle.op_gate.specs.Decision.{IsPlanned}
use Rattle.std.specs.Int.{w64}
use mir.Val.{SFits, to_z, of_z}
use Rattle.access_history.specs.History.{state_of, world_of}
use Rattle.op_gate.proofs.ActLemmas.{acted_decided, fault_decided, reserved_done, reserved_not, step_moment}
use Rattle.op_gate.proofs.act.act.Goals as goal

pub returns-in-Ok-clause-planned : goal.returns-in-Ok-clause-planned
returns-in-Ok-clause-planned c =
    let h = c.args.history.now in
    let after = c.prepare-op.new.self in
    let shown_fits : SFits w64 c.step_moment-moment.result = search rules in
    acted_decided h after c.args.pass c.args.clock c.args.caller c.args.op c.prepare-op.result.0 c.args.procaps (to_z w64 (of_z w64 c.step_moment-moment.result)) c.in-Ok.reply c.pend_act.result c.requires
    c.prepare-op.ensures.op (step_moment (state_of h) c.args.clock c.step_moment-moment.result c.ranges.clock shown_fits c.step_moment-moment.ensures)
    (reserved_done c.args.caller (state_of h).world c.args.op c.prepare-op.result.1 c.in-Ok.reply (world_of after) c.in-Ok.is c.prepare-op.ensures.answer) c.pend_act.ensures

pub returns-in-Err-clause-planned : goal.returns-in-Err-clause-planned
returns-in-Err-clause-planned c =
    let h = c.args.history.now in
    let after = c.prepare-op.new.self in
    subst (λ (plan : DecisionPlan). IsPlanned h c.args.pass c.args.clock (Act c.args.caller c.args.op c.args.procaps) plan after) (sym c.plan_of_refusal.ensures)
    (fault_decided h after c.args.pass c.args.clock c.args.caller c.args.op c.args.procaps c.in-Err.fault c.count-count.result c.requires
    (reserved_not c.args.caller (state_of h).world c.args.op c.prepare-op.result.1 c.in-Err.fault (world_of after) c.in-Err.is c.prepare-op.ensures.answer) c.count-count.ensures)
