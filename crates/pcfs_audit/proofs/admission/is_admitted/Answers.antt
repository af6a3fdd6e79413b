-- Each need is met by the procap in its place, or one is not.
use Rattle.std.proofs.Common.{◌≡◌, ◌<◌, ap, length, refl, subst, sym, take, ◌∙◌}
use Rattle.std.specs.Prelude.{ℤ}
use Rattle.std.specs.Int.{w64}
use Rattle.std.specs.List.{AllByRecursion}
use Rattle.std.proofs.lemmas.Int.{to_z-of_z}
use Rattle.file_world.specs.Needs.{needs}
use Rattle.file_world.specs.World.{World}
use Rattle.procap.specs.Genuine.{IsGenuine}
use Rattle.world_state.specs.Needed.{placed}
use Rattle.access_history.specs.Admission.{IsAdmitted, IsNeedMet}
use Rattle.access_history.proofs.ListLemmas.{AllByRecursion-contains}
use Rattle.op_gate.proofs.CheckLemmas.{is_so, is_not_so}
use Rattle.op_gate.proofs.NeedLemmas.{all_met, met_read, procap_there}
use Rattle.pcfs_audit.proofs.CitesLemmas.{is_false}
use Rattle.pcfs_audit.proofs.ReferenceLemmas.{Contains-read}
use Rattle.pcfs_audit.proofs.TakingLemmas.{not_admitted}
use Rattle.pcfs_audit.proofs.admission.is_admitted.Goals as goal

pub bounds-procaps-place : goal.bounds-procaps-place
bounds-procaps-place c =
    let same : placed 1 c.as_slice-pairs.result.now ≡ needs c.args.world.now.world c.args.op.now = c.as_slice-pairs.ensures.same ∙ c.needs-needs.ensures in
    procap_there c.args.world.now.world c.args.op.now c.as_slice-pairs.result.now c.args.procaps.now c.loop-place.place same c.requires.slots c.loop-place-test.true

pub returns-then-not-passes : goal.returns-then-not-passes
returns-then-not-passes c state is told sealed =
    let pairs = c.as_slice-pairs.result.now in
    let same : placed 1 c.as_slice-pairs.result.now ≡ needs c.args.world.now.world c.args.op.now = c.as_slice-pairs.ensures.same ∙ c.needs-needs.ensures in
    let there : c.loop-place.place < length c.args.procaps.now = procap_there c.args.world.now.world c.args.op.now pairs c.args.procaps.now c.loop-place.place same c.requires.slots c.loop-place-test.true in
    let tells = c.passes.ensures state is told (λ yes. AllByRecursion-contains (IsGenuine c.args.dossier.now.key) c.args.procaps.now c.index-procaps-place.result (sealed yes) (Contains-read c.args.procaps.now c.loop-place.place c.index-procaps-place.result there c.index-procaps-place.is)) in
    let fails = not_admitted c.args.dossier.now.key state c.args.caller.now c.args.op.now c.args.procaps.now _ pairs c.loop-place.place _ c.index-procaps-place.result
    (same ∙ ap (λ (w : World). needs w c.args.op.now) (sym is)) c.loop-place-test.true there c.index-procaps-place.is (is_not_so _ _ tells c.if-not-passes.true) in
    is_false (λ admitted. fails (subst (λ (m : ℤ). IsAdmitted c.args.dossier.now.key state c.args.caller.now c.args.op.now c.args.procaps.now m) (sym (to_z-of_z w64 c.args.moment c.ranges.moment)) admitted))

pub loop-place-preserved : goal.loop-place-preserved
loop-place-preserved c = λ state is told sealed.
    let pairs = c.as_slice-pairs.result.now in
    let same : placed 1 c.as_slice-pairs.result.now ≡ needs c.args.world.now.world c.args.op.now = c.as_slice-pairs.ensures.same ∙ c.needs-needs.ensures in
    let there : c.loop-place.place < length c.args.procaps.now = procap_there c.args.world.now.world c.args.op.now pairs c.args.procaps.now c.loop-place.place same c.requires.slots c.loop-place-test.true in
    let tells = c.passes.ensures state is told (λ yes. AllByRecursion-contains (IsGenuine c.args.dossier.now.key) c.args.procaps.now c.index-procaps-place.result (sealed yes) (Contains-read c.args.procaps.now c.loop-place.place c.index-procaps-place.result there c.index-procaps-place.is)) in
    met_read c.args.dossier.now.key state c.args.caller.now c.args.procaps.now _ pairs c.loop-place.place _ c.index-procaps-place.result c.loop-place-test.true there c.index-procaps-place.is
    (is_so _ _ tells c.if-not-passes.false) (c.loop-place.invariant state is told sealed)

pub returns : goal.returns
returns c state is told sealed =
    let pairs = c.as_slice-pairs.result.now in
    let same : placed 1 c.as_slice-pairs.result.now ≡ needs c.args.world.now.world c.args.op.now = c.as_slice-pairs.ensures.same ∙ c.needs-needs.ensures in
    let met = subst (λ (m : ℤ). AllByRecursion (IsNeedMet c.args.dossier.now.key state c.args.caller.now c.args.procaps.now m) (placed 1 (take c.loop-place.place pairs))) (to_z-of_z w64 c.args.moment c.ranges.moment) (c.loop-place.invariant state is told sealed) in
    (λ yes. all_met c.args.dossier.now.key state c.args.caller.now c.args.op.now c.args.procaps.now c.args.moment pairs c.loop-place.place (same ∙ ap (λ (w : World). needs w c.args.op.now) (sym is)) c.loop-place-test.false met, λ admitted. refl)
