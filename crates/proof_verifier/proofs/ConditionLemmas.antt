-- Lemmas on conditions that are kept.
use Rattle.std.proofs.Common.{◌≡◌, ℕ, Bool, true, false, [], ◌∷◌, ◌++◌, refl, sym, ap, eqb-true, eq-eqb}
use Rattle.std.specs.Prelude.{Contains, Result, Ok, Err}
use Rattle.bl_syntax.specs.declared.terms.Constraint.{Constraint}
use Rattle.bl_syntax.specs.declared.terms.StatePred.{StatePred}
use Rattle.bl_syntax.specs.Grant.{GrantView}
use Rattle.bl_syntax.proofs.EqualityLemmas.{same_grant}
use Rattle.condition_set.specs.Conditions.{IsFull, KeepsOnce, known, unknown, AddsTime, AddsState}
use Rattle.proof_verifier.specs.declared.fault.CheckFault.{CheckFault}
use Rattle.proof_verifier.specs.declared.fault.CheckFault.TheVariants.{TooManyConditions}
use Rattle.proof_verifier.specs.Tests.{has_constraint, has_state}
use Rattle.proof_verifier.specs.Conditions.{is_full, keep_time, keep_state}
use Rattle.proof_verifier.proofs.TestLemmas.{Decides-has_constraint, Decides-has_state}

abbrev passed : GrantView → Result GrantView CheckFault
passed g = Ok g

false_unless : (b : Bool) → (b ≡ true → ⊥) → b ≡ false
false_unless true h = absurd (h refl)
false_unless false h = refl

-- a condition on time that was added, or was there
pub kept_time : (node : ℕ) (g h : GrantView) (c : Constraint) → AddsTime g c h → (IsFull g × (Contains g.times c → ⊥) → ⊥) → keep_time node c g ≡ Ok h
kept_time node g h c adds has_place = by adds.times
  where
    by : KeepsOnce g.times c h.times → keep_time node c g ≡ Ok h
    by (known among same) =
        let there : has_constraint g.times c ≡ true = (Decides-has_constraint g.times c).1 among in
        rw there (ap passed (same_grant g h (sym adds.same_goal) (sym same) (sym adds.same_states) (sym adds.same_cited)))
    by (unknown absent same) =
        let new : has_constraint g.times c ≡ false = false_unless _ (λ e. absent ((Decides-has_constraint g.times c).0 e)) in
        let open_place : is_full g ≡ false = false_unless _ (λ e. has_place (eqb-true _ _ e, absent)) in
        rw (new, open_place) (ap passed (same_grant (record g { times = g.times ++ c ∷ [] }) h (sym adds.same_goal) (sym same) (sym adds.same_states) (sym adds.same_cited)))

-- a new condition on time, and no place for it
pub no_place_for_time : (node : ℕ) (g : GrantView) (c : Constraint) → IsFull g → (Contains g.times c → ⊥) → keep_time node c g ≡ Err (TooManyConditions node)
no_place_for_time node g c full absent =
    let new : has_constraint g.times c ≡ false = false_unless _ (λ e. absent ((Decides-has_constraint g.times c).0 e)) in
    let no_place : is_full g ≡ true = eq-eqb _ _ full in
    rw (new, no_place) refl

-- a condition on the state that was added, or was there
pub kept_state : (node : ℕ) (g h : GrantView) (s : StatePred) → AddsState g s h → (IsFull g × (Contains g.states s → ⊥) → ⊥) → keep_state node s g ≡ Ok h
kept_state node g h s adds has_place = by adds.states
  where
    by : KeepsOnce g.states s h.states → keep_state node s g ≡ Ok h
    by (known among same) =
        let there : has_state g.states s ≡ true = (Decides-has_state g.states s).1 among in
        rw there (ap passed (same_grant g h (sym adds.same_goal) (sym adds.same_times) (sym same) (sym adds.same_cited)))
    by (unknown absent same) =
        let new : has_state g.states s ≡ false = false_unless _ (λ e. absent ((Decides-has_state g.states s).0 e)) in
        let open_place : is_full g ≡ false = false_unless _ (λ e. has_place (eqb-true _ _ e, absent)) in
        rw (new, open_place) (ap passed (same_grant (record g { states = g.states ++ s ∷ [] }) h (sym adds.same_goal) (sym adds.same_times) (sym same) (sym adds.same_cited)))

-- a new condition on the state, and no place for it
pub no_place_for_state : (node : ℕ) (g : GrantView) (s : StatePred) → IsFull g → (Contains g.states s → ⊥) → keep_state node s g ≡ Err (TooManyConditions node)
no_place_for_state node g s full absent =
    let new : has_state g.states s ≡ false = false_unless _ (λ e. absent ((Decides-has_state g.states s).0 e)) in
    let no_place : is_full g ≡ true = eq-eqb _ _ full in
    rw (new, no_place) refl
