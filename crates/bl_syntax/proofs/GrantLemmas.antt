-- One more condition at the end of a grant's lists.
use Rattle.std.proofs.Common.{◌≡◌, ◌+◌, ◌<◌, ℕ, List, [], ◌∷◌, ◌++◌, length, inl, Result, Ok, Err, refl, sym, subst, ⊎_elim, length-append, arith}
use Rattle.std.specs.Prelude.{Contains, OnOk, OnErr}
use Rattle.std.specs.List.{AllByRecursion}
use Rattle.std.proofs.lemmas.List.Elements.{Contains-push_cases, Contains-append_right}
use Rattle.bl_syntax.specs.declared.limits.TheConstants.{MOST_CONDITIONS}
use Rattle.bl_syntax.specs.declared.terms.Constraint.{Constraint}
use Rattle.bl_syntax.specs.declared.terms.StatePred.{StatePred}
use Rattle.bl_syntax.specs.declared.grant.Goal.{Goal}
use Rattle.bl_syntax.specs.Grant.{GrantView, IsGrant, IsTimeCondition, IsStateCondition, AreDistinct, MayName}

pub AllByRecursion-push : {X : Type 0} (P : X → Type 0) (xs : List X) (x : X) → AllByRecursion P xs → P x → AllByRecursion P (xs ++ x ∷ [])
AllByRecursion-push P [] x all here = (here, tt)
AllByRecursion-push P (y ∷ ys) x all here = (all.0, AllByRecursion-push P ys x all.1 here)

pub Contains-head : {X : Type 0} (x y : X) (ys : List X) → y ≡ x → Contains (y ∷ ys) x
Contains-head x y ys same = (0, omega arith, same)

-- what is new may stand at the end
pub AreDistinct-push : {X : Type 0} (xs : List X) (x : X) → AreDistinct xs → (Contains xs x → ⊥) → AreDistinct (xs ++ x ∷ [])
AreDistinct-push [] x distinct new = (λ h. absurd (omega (arith, h.1)), tt)
AreDistinct-push (y ∷ ys) x distinct new = (
  λ h. ⊎_elim distinct.0 (λ same. new (Contains-head x y ys (sym same))) (Contains-push_cases ys x y h),
  AreDistinct-push ys x distinct.1 (λ h. new (Contains-append_right (y ∷ []) ys x h)),
)

-- a grant that names these statements
abbrev pub granted : Goal → List Constraint → List StatePred → List ℕ → GrantView
granted goal times states cited = record { goal = goal; times = times; states = states; cited = cited }

-- a goal without conditions is a grant
IsGrant-alone : (goal : Goal) → IsGrant (granted goal [] [] [])
IsGrant-alone goal = record { time_conditions = tt; state_conditions = tt; distinct_times = tt; distinct_states = tt; count = omega arith; names = inl refl }

pub IsGrant-new : (goal : Goal) (times : List Constraint) (states : List StatePred) (cited : List ℕ) → times ≡ [] → states ≡ [] → cited ≡ []
    → IsGrant (granted goal times states cited)
IsGrant-new goal times states cited no_times no_states none_cited =
    subst (λ (ts : List Constraint). IsGrant (granted goal ts states cited)) (sym no_times)
    (subst (λ (ss : List StatePred). IsGrant (granted goal [] ss cited)) (sym no_states)
    (subst (λ (ns : List ℕ). IsGrant (granted goal [] [] ns)) (sym none_cited) (IsGrant-alone goal)))

pub IsGrant-push_time : (g : GrantView) (c : Constraint)
    → IsGrant g → IsTimeCondition c → (Contains g.times c → ⊥) → length g.times + length g.states < MOST_CONDITIONS
    → IsGrant (record g { times = g.times ++ c ∷ [] })
IsGrant-push_time g c old condition new room = record {
  time_conditions = AllByRecursion-push IsTimeCondition g.times c old.time_conditions condition;
  state_conditions = old.state_conditions;
  distinct_times = AreDistinct-push g.times c old.distinct_times new;
  distinct_states = old.distinct_states;
  count = omega (arith, length-append g.times (c ∷ []));
  names = old.names;
}

pub IsGrant-push_state : (g : GrantView) (s : StatePred)
    → IsGrant g → IsStateCondition s → (Contains g.states s → ⊥) → length g.times + length g.states < MOST_CONDITIONS
    → IsGrant (record g { states = g.states ++ s ∷ [] })
IsGrant-push_state g s old condition new room = record {
  time_conditions = old.time_conditions;
  state_conditions = AllByRecursion-push IsStateCondition g.states s old.state_conditions condition;
  distinct_times = old.distinct_times;
  distinct_states = AreDistinct-push g.states s old.distinct_states new;
  count = omega (arith, length-append g.states (s ∷ []));
  names = old.names;
}

-- what names these statements is a grant if what named others was one
pub IsGrant-naming : (g : GrantView) (numbers : List ℕ) → IsGrant g → MayName numbers → IsGrant (record g { cited = numbers })
IsGrant-naming g numbers old may = record {
  time_conditions = old.time_conditions;
  state_conditions = old.state_conditions;
  distinct_times = old.distinct_times;
  distinct_states = old.distinct_states;
  count = old.count;
  names = may;
}

-- what holds of the new list after a growth, and of the old one where the growth was refused, holds after the call
pub after_growth : {X E : Type 0} (P : List X → Type 0) (old grown new : List X) (r : Result (Unit {0}) E)
    → OnOk r (new ≡ grown) → OnErr r (new ≡ old) → P grown → P old → P new
after_growth P old grown new (Ok x) same kept p q = subst P (sym same) p
after_growth P old grown new (Err e) same kept p q = subst P (sym kept) q
