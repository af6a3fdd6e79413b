-- The seal is tested first, then the names, then the conditions, and then that nothing was withdrawn on which the grant rests.
use Rattle.std.specs.Prelude.{ℤ}
use Rattle.std.specs.List.{AllByRecursion}
use Rattle.std.specs.Int.{w64}
use Rattle.std.proofs.Common.{ℕ, List, refl, subst, sym}
use Rattle.std.proofs.lemmas.Bool.{false≢true}
use Rattle.std.proofs.lemmas.Int.{to_z-of_z}
use Rattle.procap.specs.Genuine.{IsGenuine}
use Rattle.access_history.specs.Admission.{Passes, condition_causes}
use Rattle.access_history.specs.History.{state_of}
use Rattle.op_gate.specs.Checks.{FailsAt}
use Rattle.op_gate.proofs.CheckLemmas.{denied_seal, denied_name, denied_condition, denied_withdrawn, admitted_all}
use Rattle.op_gate.proofs.cause.denial_cause.Goals as goal

pub returns-then-not-is_genuine : goal.returns-then-not-is_genuine
returns-then-not-is_genuine c =
    denied_seal c.args.history.now.key (state_of c.args.history.now) c.args.moment c.args.wanted.now c.args.procap.now
    (λ sealed. false≢true (c.if-not-is_genuine.ensures.exact.1 (subst (λ (k : List ℕ). IsGenuine k c.args.procap.now) (sym c.key.ensures) sealed)))

pub returns-in-Some : goal.returns-in-Some
returns-in-Some c =
    let sealed : IsGenuine c.args.history.now.key c.args.procap.now = subst (λ (k : List ℕ). IsGenuine k c.args.procap.now) c.key.ensures (c.if-not-is_genuine.ensures.exact.0 refl) in
    denied_name c.args.history.now.key (state_of c.args.history.now) c.args.moment c.args.wanted.now c.args.procap.now c.in-Some.cause sealed
    (c.in-Some.ensures c.args.history.now.key (state_of c.args.history.now) c.args.moment)

pub returns-in-Some-failing_condition : goal.returns-in-Some-failing_condition
returns-in-Some-failing_condition c =
    let key = c.args.history.now.key in
    let state = state_of c.args.history.now in
    let wanted = c.args.wanted.now in
    let p = c.args.procap.now in
    let sealed : IsGenuine key p = subst (λ (k : List ℕ). IsGenuine k p) c.key.ensures (c.if-not-is_genuine.ensures.exact.0 refl) in
    let names = c.in_default.ensures key state c.args.moment in
    denied_condition key state c.args.moment wanted p c.in-Some-failing_condition.cause sealed names
    (subst (λ (m : ℤ). FailsAt (Passes key state m wanted p) (condition_causes p.grant) c.in-Some-failing_condition.cause) (to_z-of_z w64 c.args.moment c.ranges.moment) (c.in-Some-failing_condition.ensures wanted))

pub gone-requires : goal.gone-requires
gone-requires c = subst (λ (k : List ℕ). IsGenuine k c.args.procap.now) c.key.ensures (c.if-not-is_genuine.ensures.exact.0 refl)

pub returns-in-Some-gone : goal.returns-in-Some-gone
returns-in-Some-gone c =
    let key = c.args.history.now.key in
    let state = state_of c.args.history.now in
    let wanted = c.args.wanted.now in
    let p = c.args.procap.now in
    let sealed : IsGenuine key p = subst (λ (k : List ℕ). IsGenuine k p) c.key.ensures (c.if-not-is_genuine.ensures.exact.0 refl) in
    let names = c.in_default.ensures key state c.args.moment in
    let conditions = subst (λ (m : ℤ). AllByRecursion (Passes key state m wanted p) (condition_causes p.grant)) (to_z-of_z w64 c.args.moment c.ranges.moment) (c.in_default-failing_condition.ensures wanted) in
    denied_withdrawn key state c.args.moment wanted p c.in-Some-gone.number sealed names conditions (sym c.in-Some-gone.ensures)

pub returns-in-None : goal.returns-in-None
returns-in-None c =
    let key = c.args.history.now.key in
    let state = state_of c.args.history.now in
    let wanted = c.args.wanted.now in
    let p = c.args.procap.now in
    let sealed : IsGenuine key p = subst (λ (k : List ℕ). IsGenuine k p) c.key.ensures (c.if-not-is_genuine.ensures.exact.0 refl) in
    let names = c.in_default.ensures key state c.args.moment in
    let conditions = subst (λ (m : ℤ). AllByRecursion (Passes key state m wanted p) (condition_causes p.grant)) (to_z-of_z w64 c.args.moment c.ranges.moment) (c.in_default-failing_condition.ensures wanted) in
    admitted_all key state c.args.moment wanted p sealed names conditions (sym c.in-None.ensures)
