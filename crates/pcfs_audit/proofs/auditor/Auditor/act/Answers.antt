-- The tests of an operation, in their order.
use Rattle.std.proofs.Common.{Bool, List, ap, arith, subst, sym, ◌∙◌, ◌≡◌, ℕ, None}
use Rattle.std.specs.Prelude.{IsTrue, ℤ, ◌↔◌}
use Rattle.std.specs.Int.{w64}
use Rattle.std.specs.List.{AllByRecursion}
use Rattle.std.proofs.lemmas.Int.{ints, to_z-of_z}
use Rattle.procap.specs.Genuine.{IsGenuine}
use Rattle.file_world.specs.Effect.{refusal, world_after}
use Rattle.file_world.specs.World.{World}
use Rattle.access_history.specs.Admission.{IsAdmitted}
use Rattle.op_gate.proofs.CheckLemmas.{is_so, is_not_so}
use Rattle.pcfs_audit.specs.Taking.{IsBrought, TakesPlace}
use Rattle.pcfs_audit.proofs.FollowingLemmas.{falls_followed, not_admitted_followed, taken_followed}
use Rattle.pcfs_audit.proofs.auditor.Auditor.act.Goals as goal

pub returns-then-moment-self-clause-found : goal.returns-then-moment-self-clause-found
returns-then-moment-self-clause-found c pass authority state is stands told has =
    falls_followed authority state pass c.args.caller.now c.args.op.now c.args.procaps.now c.args.moment c.args.self.now (λ not_before. omega (arith, ints, not_before, c.if-moment-self.true, stands.moment_is))

pub returns-then-not-is_brought-clause-found : goal.returns-then-not-is_brought-clause-found
returns-then-not-is_brought-clause-found c pass authority state is stands told has =
    let brought = subst (λ (m : ℤ). IsTrue c.is_brought.result ↔ IsBrought c.args.op.now c.args.procaps.now m) (to_z-of_z w64 c.args.moment c.ranges.moment) c.is_brought.ensures in
    not_admitted_followed authority state pass c.args.caller.now c.args.op.now c.args.procaps.now c.args.moment c.args.self.now (omega (arith, ints, c.if-moment-self.false, stands.moment_is))
    (λ all. is_not_so _ _ brought c.if-not-is_brought.true all.0)

pub returns-then-not-is_admitted-clause-found : goal.returns-then-not-is_admitted-clause-found
returns-then-not-is_admitted-clause-found c pass authority state is stands told has =
    let tells = c.is_admitted.ensures state (sym stands.world_is) told (λ yes. subst (λ (k : List ℕ). AllByRecursion (IsGenuine k) c.args.procaps.now) is (has.genuine.0 yes)) in
    let at_moment = subst (λ (m : ℤ). IsTrue c.is_admitted.result ↔ IsAdmitted c.args.dossier.now.key state c.args.caller.now c.args.op.now c.args.procaps.now m) (to_z-of_z w64 c.args.moment c.ranges.moment) tells in
    let admitted = subst (λ (k : List ℕ). IsTrue c.is_admitted.result ↔ IsAdmitted k state c.args.caller.now c.args.op.now c.args.procaps.now c.args.moment) (sym is) at_moment in
    not_admitted_followed authority state pass c.args.caller.now c.args.op.now c.args.procaps.now c.args.moment _ (omega (arith, ints, c.if-moment-self.false, stands.moment_is))
    (λ all. is_not_so _ _ admitted c.if-not-is_admitted.true all.1)

pub returns-then-not-branch-clause-found : goal.returns-then-not-branch-clause-found
returns-then-not-branch-clause-found c pass authority state is stands told has =
    let takes = subst (λ (b : Bool). TakesPlace c.args.caller.now c.args.op.now c.args.self.now.world.world b c.take_place.new.world.world) c.if-not-branch.true c.in_ok-take_place.ensures in
    not_admitted_followed authority state pass c.args.caller.now c.args.op.now c.args.procaps.now c.args.moment _ (omega (arith, ints, c.if-moment-self.false, stands.moment_is))
    (λ all. takes.0 (subst (λ (w : World). refusal w c.args.op.now ≡ None) (sym stands.world_is) all.2))

pub returns-clause-found : goal.returns-clause-found
returns-clause-found c pass authority state is stands told has =
    let brought = subst (λ (m : ℤ). IsTrue c.is_brought.result ↔ IsBrought c.args.op.now c.args.procaps.now m) (to_z-of_z w64 c.args.moment c.ranges.moment) c.is_brought.ensures in
    let tells = c.is_admitted.ensures state (sym stands.world_is) told (λ yes. subst (λ (k : List ℕ). AllByRecursion (IsGenuine k) c.args.procaps.now) is (has.genuine.0 yes)) in
    let at_moment = subst (λ (m : ℤ). IsTrue c.is_admitted.result ↔ IsAdmitted c.args.dossier.now.key state c.args.caller.now c.args.op.now c.args.procaps.now m) (to_z-of_z w64 c.args.moment c.ranges.moment) tells in
    let admitted = subst (λ (k : List ℕ). IsTrue c.is_admitted.result ↔ IsAdmitted k state c.args.caller.now c.args.op.now c.args.procaps.now c.args.moment) (sym is) at_moment in
    let takes = subst (λ (b : Bool). TakesPlace c.args.caller.now c.args.op.now c.args.self.now.world.world b c.take_place.new.world.world) c.if-not-branch.false c.in_ok-take_place.ensures in
    taken_followed authority state pass c.args.caller.now c.args.op.now c.args.procaps.now c.args.moment c.args.credentials c.unless.result _ (omega (arith, ints, c.if-moment-self.false, stands.moment_is))
    (is_so _ _ brought c.if-not-is_brought.false) (is_so _ _ admitted c.if-not-is_admitted.false) (subst (λ (w : World). refusal w c.args.op.now ≡ None) stands.world_is takes.0)
    (takes.1 ∙ ap (λ (w : World). world_after c.args.caller.now w c.args.op.now) stands.world_is) (to_z-of_z w64 c.args.moment c.ranges.moment) has c.unless.ensures.none c.unless.ensures.some
