-- Seal, goal, time, state and what was withdrawn are tested one after the other.
use Rattle.std.proofs.Common.{subst, sym, ◌∙◌}
use Rattle.std.specs.Prelude.{Contains, IsTrue, ℤ, ◌↔◌}
use Rattle.std.specs.Int.{w64}
use Rattle.std.specs.List.{AllByRecursion}
use Rattle.std.proofs.lemmas.Int.{to_z-of_z}
use Rattle.bl_syntax.specs.Grant.{HoldsAt}
use Rattle.file_world.specs.Facts.{facts}
use Rattle.file_world.specs.World.{World}
use Rattle.op_gate.proofs.CheckLemmas.{is_so, is_not_so}
use Rattle.pcfs_audit.proofs.CitesLemmas.{is_false}
use Rattle.pcfs_audit.proofs.TakingLemmas.{admitted_by, admitted_standing, admitted_states, admitted_times}
use Rattle.pcfs_audit.proofs.admission.passes.Goals as goal

pub returns-then-not-do_times_hold : goal.returns-then-not-do_times_hold
returns-then-not-do_times_hold c state is told sealed =
    let times = subst (λ (m : ℤ). IsTrue c.do_times_hold.result ↔ AllByRecursion (HoldsAt m) c.args.procap.now.grant.times) (to_z-of_z w64 c.args.moment c.ranges.moment) c.do_times_hold.ensures in
    is_false (λ admits. is_not_so _ _ times c.if-not-do_times_hold.true (admitted_times c.args.dossier.now.key state c.args.moment c.args.wanted.now c.args.procap.now admits))

pub returns-then-not-do_states_hold : goal.returns-then-not-do_states_hold
returns-then-not-do_states_hold c state is told sealed =
    let states = subst (λ (w : World). IsTrue c.do_states_hold.result ↔ AllByRecursion (Contains (facts w)) c.args.procap.now.grant.states) (sym is) c.do_states_hold.ensures in
    is_false (λ admits. is_not_so _ _ states c.if-not-do_states_hold.true (admitted_states c.args.dossier.now.key state c.args.moment c.args.wanted.now c.args.procap.now admits))

pub returns : goal.returns
returns c state is told sealed =
    let times = subst (λ (m : ℤ). IsTrue c.do_times_hold.result ↔ AllByRecursion (HoldsAt m) c.args.procap.now.grant.times) (to_z-of_z w64 c.args.moment c.ranges.moment) c.do_times_hold.ensures in
    let states = subst (λ (w : World). IsTrue c.do_states_hold.result ↔ AllByRecursion (Contains (facts w)) c.args.procap.now.grant.states) (sym is) c.do_states_hold.ensures in
    let genuine = is_so _ _ (c.is_right.ensures sealed) c.if-not-is_right.false in
    let stands = c.does_stand.ensures state told genuine in (
      λ yes. admitted_by c.args.dossier.now.key state c.args.moment c.args.wanted.now c.args.procap.now genuine
          (sym c.goal.ensures ∙ is_so _ _ c.is_same.ensures c.if-not-is_same.false)
          (is_so _ _ times c.if-not-do_times_hold.false)
          (is_so _ _ states c.if-not-do_states_hold.false)
          (stands.0 yes),
      λ admits. stands.1 (admitted_standing c.args.dossier.now.key state c.args.moment c.args.wanted.now c.args.procap.now admits),
    )
