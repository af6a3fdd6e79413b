-- Conditions on time come first, and then those on the state.
use Rattle.std.proofs.Common.{◌≡◌, subst, refl, arith, List, get_or}
use Rattle.std.specs.Prelude.{ℤ, Contains}
use Rattle.std.specs.List.{AllByRecursion}
use Rattle.std.specs.Int.{w64}
use Rattle.std.proofs.lemmas.Int.{to_z-of_z}
use Rattle.bl_syntax.specs.declared.terms.Constraint.{Constraint}
use Rattle.bl_syntax.specs.declared.terms.StatePred.{StatePred}
use Rattle.bl_syntax.specs.FirstFailing.{IsFirstFailing}
use Rattle.bl_syntax.specs.Grant.{HoldsAt}
use Rattle.file_world.specs.Facts.{facts}
use Rattle.world_state.specs.State.{WorldState}
use Rattle.access_history.specs.History.{state_of}
use Rattle.op_gate.proofs.CheckLemmas.{condition_time, condition_state, conditions_hold, place_within, failing_read}
use Rattle.op_gate.proofs.cause.failing_condition.Goals as goal

pub overflow_cast-result : goal.overflow_cast-result
overflow_cast-result c = let f = c.in-Some.ensures.first in omega (arith, place_within _ _ _ _ f.1, c.times-times.ensures.kept.count)

pub overflow_add-result : goal.overflow_add-result
overflow_add-result c = let f = c.in-Some.ensures.first in omega (arith, place_within _ _ _ _ f.1, c.times-times.ensures.kept.count)

pub returns-in-Some : goal.returns-in-Some
returns-in-Some c = λ wanted.
    let f = c.in-Some.ensures.first in
    let read = subst (λ (ts : List Constraint). c.index-times-place.result ≡ get_or ts c.in-Some.place c.index-times-place.result) c.times-times.ensures.same c.index-times-place.is in
    let first = failing_read _ c.args.procap.now.grant.times c.in-Some.place f.0 c.index-times-place.result f.1 read in
    condition_time c.args.history.now.key (state_of c.args.history.now) c.args.moment wanted c.args.procap.now c.in-Some.place c.index-times-place.result
    (subst (λ (m : ℤ). IsFirstFailing (HoldsAt m) c.args.procap.now.grant.times c.in-Some.place c.index-times-place.result) (to_z-of_z w64 c.args.moment c.ranges.moment) first)

pub overflow_cast-result-in-Some-first_failing_state : goal.overflow_cast-result-in-Some-first_failing_state
overflow_cast-result-in-Some-first_failing_state c = let f = c.in-Some-first_failing_state.ensures.first in omega (arith, place_within _ _ _ _ f.1, c.states-states.ensures.kept.count)

pub overflow_add-result-in-Some-first_failing_state : goal.overflow_add-result-in-Some-first_failing_state
overflow_add-result-in-Some-first_failing_state c = let f = c.in-Some-first_failing_state.ensures.first in omega (arith, place_within _ _ _ _ f.1, c.states-states.ensures.kept.count)

pub returns-in-Some-first_failing_state : goal.returns-in-Some-first_failing_state
returns-in-Some-first_failing_state c = λ wanted.
    let state = state_of c.args.history.now in
    let f = c.in-Some-first_failing_state.ensures.first in
    let read = subst (λ (ss : List StatePred). c.index-states-place.result ≡ get_or ss c.in-Some-first_failing_state.place c.index-states-place.result) c.states-states.ensures.same c.index-states-place.is in
    let first = failing_read _ c.args.procap.now.grant.states c.in-Some-first_failing_state.place f.0 c.index-states-place.result f.1 read in
    let times = c.in_default.ensures.none.0 refl in
    condition_state c.args.history.now.key state c.args.moment wanted c.args.procap.now c.in-Some-first_failing_state.place c.index-states-place.result
    (subst (λ (m : ℤ). AllByRecursion (HoldsAt m) c.args.procap.now.grant.times) (to_z-of_z w64 c.args.moment c.ranges.moment) times)
    (subst (λ (w : WorldState). IsFirstFailing (Contains (facts w.world)) c.args.procap.now.grant.states c.in-Some-first_failing_state.place c.index-states-place.result) c.world.ensures first)

pub returns : goal.returns
returns c = λ wanted.
    let state = state_of c.args.history.now in
    let times = c.in_default.ensures.none.0 refl in
    let states = c.in_default-first_failing_state.ensures.none.0 refl in
    conditions_hold c.args.history.now.key state c.args.moment wanted c.args.procap.now
    (subst (λ (m : ℤ). AllByRecursion (HoldsAt m) c.args.procap.now.grant.times) (to_z-of_z w64 c.args.moment c.ranges.moment) times)
    (subst (λ (w : WorldState). AllByRecursion (Contains (facts w.world)) c.args.procap.now.grant.states) c.world.ensures states)
