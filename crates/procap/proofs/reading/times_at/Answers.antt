use Rattle.std.proofs.Common.{◌≡◌, [], ap, ◌∙◌}
use Rattle.bl_syntax.specs.Grant.{GrantView}
use Rattle.procap.specs.GrantReading.{time_condition_at, may_follow_times}
use Rattle.bl_syntax.proofs.ReportsFaultLemmas.{stops}
use Rattle.procap.proofs.ReadingLemmas.{conditions_fault, conditions_more}
use Rattle.procap.proofs.reading.times_at.Goals as goal

pub returns-in-Err-clause-read : goal.returns-in-Err-clause-read
returns-in-Err-clause-read c = stops c.in-Err.fault _ (conditions_fault time_condition_at may_follow_times 64 c.args.input c.args.bytes.now c.in-Err.fault c.in-Err.ensures.read)

pub returns-in_ok-reserve_times-in-Ok-clause-read : goal.returns-in_ok-reserve_times-in-Ok-clause-read
returns-in_ok-reserve_times-in-Ok-clause-read c =
    let none : c.reserve_times.new.self.times ≡ [] = ap (λ (g : GrantView). g.times) c.in_ok-reserve_times-in-Ok.ensures ∙ c.requires.no_times in
    rw (conditions_more time_condition_at may_follow_times 64 c.args.input c.args.bytes.now c.in-Ok.count c.in-Ok.rest.now c.in-Ok.ensures.read, ← none) c.add_times_at.ensures.read
