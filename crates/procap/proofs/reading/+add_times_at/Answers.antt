use Rattle.std.proofs.Common.{◌≡◌, [], ◌∷◌, ◌++◌, true, false, ap, arith}
use Rattle.bl_syntax.specs.Grant.{GrantView}
use Rattle.procap.specs.GrantReading.{time_condition_at, may_follow_times}
use Rattle.bl_syntax.proofs.ReportsFaultLemmas.{stops}
use Rattle.procap.proofs.ReadingLemmas.{items_none, items_fault, items_refused, items_more, time_is_kept}
use Rattle.procap.proofs.reading.+add_times_at.Goals as goal

pub returns-then-count-eq0-clause-read : goal.returns-then-count-eq0-clause-read
returns-then-count-eq0-clause-read t c = items_none time_condition_at may_follow_times c.args.count c.args.input c.args.grant.now.times c.args.bytes.now c.if-count-eq0.true

pub returns-in-Err-clause-read : goal.returns-in-Err-clause-read
returns-in-Err-clause-read t c = stops c.in-Err.fault _ (items_fault time_condition_at may_follow_times c.args.count c.args.input c.args.grant.now.times c.args.bytes.now c.in-Err.fault (omega (arith, c.if-count-eq0.false)) c.in-Err.ensures)

pub returns-then-not-may_follow_times-clause-read : goal.returns-then-not-may_follow_times-clause-read
returns-then-not-may_follow_times-clause-read t c =
    let refused : may_follow_times c.args.grant.now.times c.in-Ok.c ≡ false = rw (← c.times.ensures.same, ← c.may_follow_times.ensures) c.if-not-may_follow_times.true in
    rw c.place.ensures (items_refused time_condition_at may_follow_times c.args.count c.args.input c.args.grant.now.times c.args.bytes.now c.in-Ok.c c.in-Ok.rest.now (omega (arith, c.if-count-eq0.false)) c.in-Ok.ensures refused)

pub push_time-requires-clause-condition : goal.push_time-requires-clause-condition
push_time-requires-clause-condition t c =
    let follows : may_follow_times c.args.grant.now.times c.in-Ok.c ≡ true = rw (← c.times.ensures.same, ← c.may_follow_times.ensures) c.if-not-may_follow_times.false in
    (time_is_kept c.args.input c.args.bytes.now c.in-Ok.rest.now c.args.grant.now.times c.in-Ok.c (λ i. omega (arith, c.type_inv.bytes i)) c.in-Ok.ensures follows).0

pub push_time-requires-clause-new : goal.push_time-requires-clause-new
push_time-requires-clause-new t c =
    let follows : may_follow_times c.args.grant.now.times c.in-Ok.c ≡ true = rw (← c.times.ensures.same, ← c.may_follow_times.ensures) c.if-not-may_follow_times.false in
    (time_is_kept c.args.input c.args.bytes.now c.in-Ok.rest.now c.args.grant.now.times c.in-Ok.c (λ i. omega (arith, c.type_inv.bytes i)) c.in-Ok.ensures follows).1

pub returns-in_ok-push_time-in-Ok-clause-read : goal.returns-in_ok-push_time-in-Ok-clause-read
returns-in_ok-push_time-in-Ok-clause-read t c =
    let follows : may_follow_times c.args.grant.now.times c.in-Ok.c ≡ true = rw (← c.times.ensures.same, ← c.may_follow_times.ensures) c.if-not-may_follow_times.false in
    let grown : c.push_time.new.self.times ≡ c.args.grant.now.times ++ c.in-Ok.c ∷ [] = ap (λ (g : GrantView). g.times) c.in_ok-push_time-in-Ok.ensures.ok in
    rw (items_more time_condition_at may_follow_times c.args.count c.args.input c.args.grant.now.times c.args.bytes.now c.in-Ok.c c.in-Ok.rest.now (omega (arith, c.if-count-eq0.false)) c.in-Ok.ensures follows, ← grown) c.add_times_at.ensures.read
