use Rattle.std.proofs.Common.{◌≡◌, ◌-◌, [], length, ap, ◌∙◌}
use Rattle.bl_syntax.specs.Grant.{GrantView}
use Rattle.procap.specs.GrantReading.{state_condition_at, may_follow_states}
use Rattle.bl_syntax.proofs.ReportsFaultLemmas.{stops}
use Rattle.procap.proofs.ReadingLemmas.{conditions_fault, conditions_more}
use Rattle.procap.proofs.reading.states_at.Goals as goal

pub returns-in-Err-clause-read : goal.returns-in-Err-clause-read
returns-in-Err-clause-read c = stops c.in-Err.fault _ (conditions_fault state_condition_at may_follow_states (64 - length c.args.grant.now.times) c.args.input c.args.bytes.now c.in-Err.fault (rw (← c.times.ensures.same) c.in-Err.ensures.read))

pub returns-in_ok-reserve_states-in-Ok-clause-read : goal.returns-in_ok-reserve_states-in-Ok-clause-read
returns-in_ok-reserve_states-in-Ok-clause-read c =
    let none : c.reserve_states.new.self.states ≡ [] = ap (λ (g : GrantView). g.states) c.in_ok-reserve_states-in-Ok.ensures ∙ c.requires.no_states in
    rw (conditions_more state_condition_at may_follow_states (64 - length c.args.grant.now.times) c.args.input c.args.bytes.now c.in-Ok.count c.in-Ok.rest.now (rw (← c.times.ensures.same) c.in-Ok.ensures.read), ← none) c.add_states_at.ensures.read
