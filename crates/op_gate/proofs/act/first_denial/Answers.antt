-- The first need that is not met, or all are.
use Rattle.std.proofs.Common.{◌≡◌, ◌<◌, ◌∙◌, ap, subst, length, take}
use Rattle.std.specs.Prelude.{ℤ}
use Rattle.std.specs.Int.{w64}
use Rattle.std.specs.List.{AllByRecursion}
use Rattle.std.proofs.lemmas.Int.{to_z-of_z}
use Rattle.file_world.specs.Needs.{needs}
use Rattle.world_state.specs.Needed.{placed}
use Rattle.world_state.specs.State.{WorldState}
use Rattle.access_history.specs.Admission.{IsNeedMet}
use Rattle.access_history.specs.History.{state_of}
use Rattle.op_gate.proofs.NeedLemmas.{procap_there, met_read, all_met, denied_read}
use Rattle.op_gate.proofs.act.first_denial.Goals as goal

pub bounds-procaps-place : goal.bounds-procaps-place
bounds-procaps-place c =
    let same : placed 1 c.as_slice-pairs.result.now ≡ needs (state_of c.args.history.now).world c.args.op.now = c.as_slice-pairs.ensures.same ∙ c.needs-needs.ensures ∙ ap (λ (w : WorldState). needs w.world c.args.op.now) c.world.ensures in
    procap_there (state_of c.args.history.now).world c.args.op.now c.as_slice-pairs.result.now c.args.procaps.now c.loop-place.place same c.requires c.loop-place-test.true

pub returns-in-Some : goal.returns-in-Some
returns-in-Some c =
    let h = c.args.history.now in
    let state = state_of c.args.history.now in
    let pairs = c.as_slice-pairs.result.now in
    let same : placed 1 c.as_slice-pairs.result.now ≡ needs (state_of c.args.history.now).world c.args.op.now = c.as_slice-pairs.ensures.same ∙ c.needs-needs.ensures ∙ ap (λ (w : WorldState). needs w.world c.args.op.now) c.world.ensures in
    let there : c.loop-place.place < length c.args.procaps.now = procap_there state.world c.args.op.now pairs c.args.procaps.now c.loop-place.place same c.requires c.loop-place-test.true in
    let denied = denied_read c.args.history.now.key (state_of c.args.history.now) c.args.caller.now c.args.op.now c.args.procaps.now _ c.as_slice-pairs.result.now c.loop-place.place _ c.index-procaps-place.result c.in-Some.cause same c.loop-place-test.true there c.index-procaps-place.is c.in-Some.ensures c.loop-place.invariant in
    (rw (to_z-of_z w64 c.args.moment c.ranges.moment) at denied, c.count.ensures)

pub loop-place-preserved : goal.loop-place-preserved
loop-place-preserved c =
    let h = c.args.history.now in
    let state = state_of c.args.history.now in
    let pairs = c.as_slice-pairs.result.now in
    let same : placed 1 c.as_slice-pairs.result.now ≡ needs (state_of c.args.history.now).world c.args.op.now = c.as_slice-pairs.ensures.same ∙ c.needs-needs.ensures ∙ ap (λ (w : WorldState). needs w.world c.args.op.now) c.world.ensures in
    let there : c.loop-place.place < length c.args.procaps.now = procap_there state.world c.args.op.now pairs c.args.procaps.now c.loop-place.place same c.requires c.loop-place-test.true in
    met_read h.key state c.args.caller.now c.args.procaps.now _ pairs c.loop-place.place _ c.index-procaps-place.result c.loop-place-test.true there c.index-procaps-place.is c.in_default.ensures c.loop-place.invariant

pub returns : goal.returns
returns c =
    let h = c.args.history.now in
    let state = state_of c.args.history.now in
    let pairs = c.as_slice-pairs.result.now in
    let same : placed 1 c.as_slice-pairs.result.now ≡ needs (state_of c.args.history.now).world c.args.op.now = c.as_slice-pairs.ensures.same ∙ c.needs-needs.ensures ∙ ap (λ (w : WorldState). needs w.world c.args.op.now) c.world.ensures in
    let met = subst (λ (m : ℤ). AllByRecursion (IsNeedMet h.key state c.args.caller.now c.args.procaps.now m) (placed 1 (take c.loop-place.place pairs))) (to_z-of_z w64 c.args.moment c.ranges.moment) c.loop-place.invariant in
    all_met h.key state c.args.caller.now c.args.op.now c.args.procaps.now c.args.moment pairs c.loop-place.place same c.loop-place-test.false met
