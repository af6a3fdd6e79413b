-- What is derivable is true in each model.
use Rattle.std.proofs.Common.{◌≡◌, ◌∙◌, ◌⊎◌, ◌+◌, inl, inr, ℕ, zero, suc, List, [], ◌∷◌, ◌++◌, length, Bool, Some, refl, ap, sym, subst, ⊎_elim, arith, length-append}
use Rattle.std.specs.Prelude.{IsTrue, Contains, ◌==◌, if◌then◌else◌}
use Rattle.std.specs.List.{AllByRecursion, slice_get}
use Rattle.std.proofs.lemmas.Bool.{eq-eqb, ne_eqb}
use Rattle.std.proofs.lemmas.Option.{slice_get_within}
use Rattle.std.proofs.lemmas.List.Elements.{Contains-push_cases}
use Rattle.bl_syntax.specs.declared.terms.Sort.{Sort}
use Rattle.bl_syntax.specs.declared.terms.Sort.TheVariants as sort
use Rattle.bl_syntax.specs.declared.terms.TimePoint.{TimePoint}
use Rattle.bl_syntax.specs.declared.terms.Term.{Term}
use Rattle.bl_syntax.specs.declared.terms.Term.TheVariants.{Time}
use Rattle.bl_syntax.specs.declared.terms.StatePred.{StatePred}
use Rattle.bl_syntax.specs.declared.terms.Constraint.{Constraint}
use Rattle.bl_syntax.specs.Formula.{FormulaView, atom, compare, state, both, either, implies, falsity, forall_, exists_, says, on}
use Rattle.bl_syntax.specs.TimeOrder.{IsUpTo}
use Rattle.bl_syntax.specs.Terms.{IsAtLeastAsStrong}
use Rattle.bl_syntax.specs.WellSorted.{terms_of_state}
use Rattle.bl_syntax.specs.Statement.{AllTerms}
use Rattle.bl_syntax.specs.Substitution.{instance_at}
use Rattle.bl_syntax.proofs.EntailmentLemmas.{Entails-true}
use Rattle.bl_rules.specs.Sequent.{Hypothesis, holds, claims, Known, learn, bound, observe, declare, speak, new_parameter, new_start, new_end, suppose}
use Rattle.bl_rules.specs.Derivable.{Assumes, IsNotAfter, Derivable, init, cons_r, inter_r, and_r, or_r1, or_r2, true_r, imp_r, forall_r, exists_r, says_r, at_r, cons_l, inter_l, and_l, or_l, false_l, imp_l, forall_l, exists_l, says_l, claim, at_l}
use Rattle.bl_rules.specs.Model.{Model, Values, value, time_of, time_value, state_value, IsConstantOf, IsTrueIn, IsTrueHypothesis, IsTrueKnown, IsParameterBelow, IsHypothesisBelow, AreParametersDeclared, IsGoalDeclared}
use Rattle.bl_rules.proofs.Membership.{IsClaim, claims_among-Contains}
use Rattle.bl_rules.proofs.ModelTerms.{Agree, Agree-back, value-agree, time_value-agree, state_value-agree, IsTrueIn-agree, IsTrueIn-instance, sorted_value, sorted_stands, sorted_below, IsBelow-more, All-weaker, AllTerms-weaker, instance_below}

-- the number of parameters
abbrev count : Known → ℕ
count known = length known.sorts

IsDeclared-learn : (known : Known) (h : Hypothesis) → AreParametersDeclared known → IsHypothesisBelow (count known) h → AreParametersDeclared (learn h known)
IsDeclared-learn known h declared below = record {
  constraints = declared.constraints;
  facts = declared.facts;
  hypotheses = λ g among. ⊎_elim (λ (before : Assumes known g). declared.hypotheses g before) (λ same. subst (IsHypothesisBelow (count known)) same below)
      (Contains-push_cases known.hypotheses h g among);
  who = declared.who;
  from = declared.from;
  to = declared.to;
}

IsDeclared-bound : (known : Known) (low high : Term) → AreParametersDeclared known → IsParameterBelow (count known) low → IsParameterBelow (count known) high → AreParametersDeclared (bound low high known)
IsDeclared-bound known low high declared low_below high_below = record {
  constraints = λ c among. ⊎_elim (λ (before : Contains known.constraints c). declared.constraints c before)
      (λ same. subst (λ (d : Constraint). IsParameterBelow (count known) d.low × IsParameterBelow (count known) d.high) same (low_below, high_below))
      (Contains-push_cases known.constraints (record { low = low; high = high }) c among);
  facts = declared.facts;
  hypotheses = declared.hypotheses;
  who = declared.who;
  from = declared.from;
  to = declared.to;
}

IsDeclared-observe : (known : Known) (s : StatePred) → AreParametersDeclared known → AllByRecursion (IsParameterBelow (count known)) (terms_of_state s) → AreParametersDeclared (observe s known)
IsDeclared-observe known s declared below = record {
  constraints = declared.constraints;
  facts = λ r among. ⊎_elim (λ (before : Contains known.facts r). declared.facts r before)
      (λ same. subst (λ (q : StatePred). AllByRecursion (IsParameterBelow (count known)) (terms_of_state q)) same below)
      (Contains-push_cases known.facts s r among);
  hypotheses = declared.hypotheses;
  who = declared.who;
  from = declared.from;
  to = declared.to;
}

IsDeclared-speak : (known : Known) (k u v : Term) → AreParametersDeclared known → IsParameterBelow (count known) k → IsParameterBelow (count known) u → IsParameterBelow (count known) v
    → AreParametersDeclared (speak k u v known)
IsDeclared-speak known k u v declared k_below u_below v_below = record {
  constraints = declared.constraints;
  facts = declared.facts;
  hypotheses = λ h among. declared.hypotheses h (claims_among-Contains known.hypotheses h among).0;
  who = k_below;
  from = u_below;
  to = v_below;
}

count-declare : (known : Known) (s : Sort) → count (declare s known) ≡ count known + 1
count-declare known s = omega (arith, length-append known.sorts (s ∷ []))

below-declare : (known : Known) (s : Sort) (t : Term) → IsParameterBelow (count known) t → IsParameterBelow (count (declare s known)) t
below-declare known s t = IsBelow-more (count known) (count (declare s known)) (omega (arith, count-declare known s)) t

formula_below-declare : (known : Known) (s : Sort) (a : FormulaView) → AllTerms (IsParameterBelow (count known)) a → AllTerms (IsParameterBelow (count (declare s known))) a
formula_below-declare known s a = AllTerms-weaker (IsParameterBelow (count known)) (IsParameterBelow (count (declare s known))) (below-declare known s) a

hypothesis_below-declare : (known : Known) (s : Sort) (h : Hypothesis) → IsHypothesisBelow (count known) h → IsHypothesisBelow (count (declare s known)) h
hypothesis_below-declare known s (holds a u v) below = (formula_below-declare known s a below.0, below-declare known s u below.1, below-declare known s v below.2)
hypothesis_below-declare known s (claims k a u v) below =
    (below-declare known s k below.0, formula_below-declare known s a below.1, below-declare known s u below.2, below-declare known s v below.3)

IsDeclared-declare : (known : Known) (s : Sort) → AreParametersDeclared known → AreParametersDeclared (declare s known)
IsDeclared-declare known s declared = record {
  constraints = λ c among.
      let below = declared.constraints c among in
      (below-declare known s c.low below.0, below-declare known s c.high below.1);
  facts = λ p among. All-weaker (IsParameterBelow (count known)) (IsParameterBelow (count (declare s known))) (below-declare known s) _ (declared.facts p among);
  hypotheses = λ h among. hypothesis_below-declare known s h (declared.hypotheses h among);
  who = below-declare known s known.view.who declared.who;
  from = below-declare known s known.view.from declared.from;
  to = below-declare known s known.view.to declared.to;
}

-- the new parameter is declared then
new_below : (known : Known) (s : Sort) → IsParameterBelow (count (declare s known)) (new_parameter known)
new_below known s = omega (arith, count-declare known s)

-- with one value more
abbrev extended : Values → ℕ → Term → Values
extended p n t = λ k. if k == n then t else p k

extended_at : (p : Values) (n : ℕ) (t : Term) → extended p n t n ≡ t
extended_at p n t = subst (λ (test : Bool). (if test then t else p n) ≡ t) (sym (eq-eqb n n refl)) refl

extended_agrees : (p : Values) (n : ℕ) (t : Term) → Agree n p (extended p n t)
extended_agrees p n t = record {
  each = λ k below. subst (λ (test : Bool). p k ≡ (if test then t else p k)) (sym (ne_eqb k n (λ same. omega (arith, below, same)))) refl;
}

-- the sort of a parameter, where one more is declared
sort_cases : (sorts : List Sort) (p : Sort) (n : ℕ) (s : Sort) → slice_get (sorts ++ p ∷ []) n ≡ Some s → (slice_get sorts n ≡ Some s) ⊎ ((n ≡ length sorts) × (p ≡ s))
sort_cases [] p zero s sorted = inr (omega arith, cc)
sort_cases [] p (suc n) s sorted = inl sorted
sort_cases (x ∷ sorts) p zero s sorted = inl sorted
sort_cases (x ∷ sorts) p (suc n) s sorted = ⊎_elim inl (λ last. let same : n ≡ length sorts = last.0 in inr (omega (arith, same), last.1)) (sort_cases sorts p n s sorted)

module _ (m : Model) where
  -- what is entailed is true
  IsUpTo-entailed : (p : Values) (world : ℕ) (known : Known) (u v : Term) → IsTrueKnown m p world known → IsNotAfter known u v
      → IsUpTo (time_value m p [] u) (time_value m p [] v)
  IsUpTo-entailed p world known u v true_known entailed =
      Entails-true (λ t. time_value m p [] t) (record { constants = λ point. refl }) known.constraints (record { each = true_known.constraints }) u v entailed

  IsTrueKnown-learn : (p : Values) (world : ℕ) (known : Known) (h : Hypothesis) → IsTrueKnown m p world known → IsTrueHypothesis m p world h → IsTrueKnown m p world (learn h known)
  IsTrueKnown-learn p world known h true_known is_true = record {
    sorts = true_known.sorts;
    constraints = true_known.constraints;
    facts = true_known.facts;
    hypotheses = λ g among. ⊎_elim (λ (before : Assumes known g). true_known.hypotheses g before) (λ same. subst (IsTrueHypothesis m p world) same is_true)
        (Contains-push_cases known.hypotheses h g among);
    view = true_known.view;
  }

  IsTrueKnown-bound : (p : Values) (world : ℕ) (known : Known) (low high : Term) → IsTrueKnown m p world known → IsUpTo (time_value m p [] low) (time_value m p [] high)
      → IsTrueKnown m p world (bound low high known)
  IsTrueKnown-bound p world known low high true_known up_to = record {
    sorts = true_known.sorts;
    constraints = λ c among. ⊎_elim (λ (before : Contains known.constraints c). true_known.constraints c before)
        (λ same. subst (λ (d : Constraint). IsUpTo (time_value m p [] d.low) (time_value m p [] d.high)) same up_to)
        (Contains-push_cases known.constraints (record { low = low; high = high }) c among);
    facts = true_known.facts;
    hypotheses = true_known.hypotheses;
    view = true_known.view;
  }

  IsTrueKnown-observe : (p : Values) (world : ℕ) (known : Known) (s : StatePred) → IsTrueKnown m p world known → IsTrue (m.is_fact (state_value m p [] s))
      → IsTrueKnown m p world (observe s known)
  IsTrueKnown-observe p world known s true_known is_fact = record {
    sorts = true_known.sorts;
    constraints = true_known.constraints;
    facts = λ r among. ⊎_elim (λ (before : Contains known.facts r). true_known.facts r before) (λ same. subst (λ (q : StatePred). IsTrue (m.is_fact (state_value m p [] q))) same is_fact)
        (Contains-push_cases known.facts s r among);
    hypotheses = true_known.hypotheses;
    view = true_known.view;
  }

  -- a claim is as true in each world
  claim_elsewhere : (p : Values) (world other : ℕ) (h : Hypothesis) → IsClaim h → IsTrueHypothesis m p world h → IsTrueHypothesis m p other h
  claim_elsewhere p world other (holds a u v) is_claim is_true = absurd is_claim
  claim_elsewhere p world other (claims k a u v) is_claim is_true = is_true

  IsTrueKnown-speak : (p : Values) (world other : ℕ) (known : Known) (k u v : Term) → IsTrueKnown m p world known
      → IsTrue (m.heeds other (value m p [] k) (time_value m p [] u) (time_value m p [] v)) → IsTrueKnown m p other (speak k u v known)
  IsTrueKnown-speak p world other known k u v true_known heeds = record {
    sorts = true_known.sorts;
    constraints = true_known.constraints;
    facts = true_known.facts;
    hypotheses = λ h among.
        let was = claims_among-Contains known.hypotheses h among in
        claim_elsewhere p world other h was.1 (true_known.hypotheses h was.0);
    view = heeds;
  }

  -- a hypothesis is as true with values that agree on its parameters
  hypothesis-agree : (n : ℕ) (p q : Values) (world : ℕ) (h : Hypothesis) → Agree n p q → IsHypothesisBelow n h → IsTrueHypothesis m p world h → IsTrueHypothesis m q world h
  hypothesis-agree n p q world (holds a u v) agree below is_true =
      subst (λ (x : TimePoint). IsTrueIn m q [] world a x (time_value m q [] v)) (time_value-agree m n p q [] u agree below.1)
      (subst (λ (y : TimePoint). IsTrueIn m q [] world a (time_value m p [] u) y) (time_value-agree m n p q [] v agree below.2)
      (IsTrueIn-agree m n a p q [] world (time_value m p [] u) (time_value m p [] v) agree below.0 is_true))
  hypothesis-agree n p q world (claims k a u v) agree below is_true =
      subst (λ (x : TimePoint). IsTrueIn m q [] world (says k a) x (time_value m q [] v)) (time_value-agree m n p q [] u agree below.2)
      (subst (λ (y : TimePoint). IsTrueIn m q [] world (says k a) (time_value m p [] u) y) (time_value-agree m n p q [] v agree below.3)
      (IsTrueIn-agree m n (says k a) p q [] world (time_value m p [] u) (time_value m p [] v) agree (below.0, below.1) is_true))

  view-agree : (n : ℕ) (p q : Values) (world : ℕ) (k u v : Term) → Agree n p q → IsParameterBelow n k → IsParameterBelow n u → IsParameterBelow n v
      → IsTrue (m.heeds world (value m p [] k) (time_value m p [] u) (time_value m p [] v)) → IsTrue (m.heeds world (value m q [] k) (time_value m q [] u) (time_value m q [] v))
  view-agree n p q world k u v agree k_below u_below v_below heeds =
      subst (λ (who : Term). IsTrue (m.heeds world who (time_value m q [] u) (time_value m q [] v))) (value-agree m n p q [] k agree k_below)
      (subst (λ (x : TimePoint). IsTrue (m.heeds world (value m p [] k) x (time_value m q [] v))) (time_value-agree m n p q [] u agree u_below)
      (subst (λ (y : TimePoint). IsTrue (m.heeds world (value m p [] k) (time_value m p [] u) y)) (time_value-agree m n p q [] v agree v_below) heeds))

  up_to-agree : (n : ℕ) (p q : Values) (u v : Term) → Agree n p q → IsParameterBelow n u → IsParameterBelow n v → IsUpTo (time_value m p [] u) (time_value m p [] v)
      → IsUpTo (time_value m q [] u) (time_value m q [] v)
  up_to-agree n p q u v agree u_below v_below up_to =
      subst (λ (x : TimePoint). IsUpTo x (time_value m q [] v)) (time_value-agree m n p q [] u agree u_below)
      (subst (λ (y : TimePoint). IsUpTo (time_value m p [] u) y) (time_value-agree m n p q [] v agree v_below) up_to)

  IsTrueKnown-declare : (p : Values) (world : ℕ) (known : Known) (s : Sort) (t : Term) → IsTrueKnown m p world known → AreParametersDeclared known → IsConstantOf s t
      → IsTrueKnown m (extended p (count known) t) world (declare s known)
  IsTrueKnown-declare p world known s t true_known declared constant =
      let q = extended p (count known) t in
      let agree = extended_agrees p (count known) t in
      record {
        sorts = λ n r sorted. ⊎_elim
            (λ (before : slice_get known.sorts n ≡ Some r).
            subst (λ (x : Term). IsConstantOf r x) (agree.each n (slice_get_within known.sorts n r before)) (true_known.sorts n r before))
            (λ (last : ((n ≡ count known) × (s ≡ r))).
            subst (λ (k : ℕ). IsConstantOf r (q k)) (sym last.0)
            (subst (λ (x : Term). IsConstantOf r x) (sym (extended_at p (count known) t)) (subst (λ (z : Sort). IsConstantOf z t) last.1 constant)))
            (sort_cases known.sorts s n r sorted);
        constraints = λ c among.
            let below = declared.constraints c among in
            up_to-agree (count known) p q c.low c.high agree below.0 below.1 (true_known.constraints c among);
        facts = λ r among. subst (λ (fact : StatePred). IsTrue (m.is_fact fact)) (state_value-agree m (count known) p q [] r agree (declared.facts r among)) (true_known.facts r among);
        hypotheses = λ h among. hypothesis-agree (count known) p q world h agree (declared.hypotheses h among) (true_known.hypotheses h among);
        view = view-agree (count known) p q world known.view.who known.view.from known.view.to agree declared.who declared.from declared.to true_known.view;
      }

  -- with values that agree on the parameters of the formula and of both times
  moved : (n : ℕ) (p q : Values) (bounds : List Term) (world : ℕ) (a : FormulaView) (u v : Term) → Agree n p q → AllTerms (IsParameterBelow n) a → IsParameterBelow n u → IsParameterBelow n v
      → IsTrueIn m p bounds world a (time_value m p [] u) (time_value m p [] v) → IsTrueIn m q bounds world a (time_value m q [] u) (time_value m q [] v)
  moved n p q bounds world a u v agree below u_below v_below is_true =
      subst (λ (x : TimePoint). IsTrueIn m q bounds world a x (time_value m q [] v)) (time_value-agree m n p q [] u agree u_below)
      (subst (λ (y : TimePoint). IsTrueIn m q bounds world a (time_value m p [] u) y) (time_value-agree m n p q [] v agree v_below)
      (IsTrueIn-agree m n a p q bounds world (time_value m p [] u) (time_value m p [] v) agree below is_true))

  strong_values : (p : Values) (k other : Term) → IsAtLeastAsStrong k other → IsAtLeastAsStrong (value m p [] k) (value m p [] other)
  strong_values p k other = ⊎_elim (λ same. inl (ap (value m p []) same)) (λ is_loc. inr (ap (value m p []) is_loc))

  -- a sequent is true with these values, in this world
  abbrev IsTrueSequent : Values → ℕ → Known → FormulaView → Term → Term → Type 0
  IsTrueSequent p world known goal u v = AreParametersDeclared known → IsGoalDeclared known goal u v → IsTrueKnown m p world known → IsTrueIn m p [] world goal (time_value m p [] u) (time_value m p [] v)

  -- the premise of an implication, at an interval within
  implication : (p : Values) (world : ℕ) (known : Known) (a b : FormulaView) (u v : Term)
      → ((q : Values) → IsTrueSequent q world (suppose a u v known) b (new_start known) (new_end known))
      → IsTrueSequent p world known (implies a b) u v
  implication p world known a b u v premise declared goal true_known x y begins ends given =
      let once = declare sort.Time known in
      let twice = declare sort.Time once in
      let start = new_start known in
      let end = new_end known in
      let p1 = extended p (count known) (Time x) in
      let p2 = extended p1 (count once) (Time y) in
      let agree1 = extended_agrees p (count known) (Time x) in
      let agree2 = extended_agrees p1 (count once) (Time y) in
      let agree : Agree (count known) p p2 = record { each = λ n below. agree1.each n below ∙ agree2.each n (omega (arith, below, count-declare known sort.Time)) } in
      let start_is : p2 (count known) ≡ Time x = sym (agree2.each (count known) (new_below known sort.Time)) ∙ extended_at p (count known) (Time x) in
      let end_is : p2 (count once) ≡ Time y = extended_at p1 (count once) (Time y) in
      let declared1 = IsDeclared-declare known sort.Time declared in
      let declared2 = IsDeclared-declare once sort.Time declared1 in
      let true1 : IsTrueKnown m p1 world once = IsTrueKnown-declare p world known sort.Time (Time x) true_known declared (record { constant = tt; sort = refl }) in
      let true2 : IsTrueKnown m p2 world twice = IsTrueKnown-declare p1 world once sort.Time (Time y) true1 declared1 (record { constant = tt; sort = refl }) in
      let start_below : IsParameterBelow (count twice) start = below-declare once sort.Time start (new_below known sort.Time) in
      let end_below : IsParameterBelow (count twice) end = new_below once sort.Time in
      let u_below = below-declare once sort.Time u (below-declare known sort.Time u goal.from) in
      let v_below = below-declare once sort.Time v (below-declare known sort.Time v goal.to) in
      let a_below = formula_below-declare once sort.Time a (formula_below-declare known sort.Time a goal.formula.0) in
      let b_below = formula_below-declare once sort.Time b (formula_below-declare known sort.Time b goal.formula.1) in
      let started : IsUpTo (time_value m p2 [] u) (time_value m p2 [] start) =
      subst (λ (s : Term). IsUpTo (time_value m p2 [] u) (time_of s)) (sym start_is)
      (subst (λ (z : TimePoint). IsUpTo z x) (time_value-agree m (count known) p p2 [] u agree goal.from) begins) in
      let ended : IsUpTo (time_value m p2 [] end) (time_value m p2 [] v) =
      subst (λ (s : Term). IsUpTo (time_of s) (time_value m p2 [] v)) (sym end_is)
      (subst (λ (z : TimePoint). IsUpTo y z) (time_value-agree m (count known) p p2 [] v agree goal.to) ends) in
      let supposed : IsTrueIn m p2 [] world a (time_value m p2 [] start) (time_value m p2 [] end) =
      subst (λ (s : Term). IsTrueIn m p2 [] world a (time_of s) (time_value m p2 [] end)) (sym start_is)
      (subst (λ (s : Term). IsTrueIn m p2 [] world a x (time_of s)) (sym end_is)
      (IsTrueIn-agree m (count known) a p p2 [] world x y agree goal.formula.0 given)) in
      let after_start = bound u start twice in
      let after_end = bound end v after_start in
      let concluded : IsTrueIn m p2 [] world b (time_value m p2 [] start) (time_value m p2 [] end) =
      premise p2
      (IsDeclared-learn after_end (holds a start end) (IsDeclared-bound after_start end v (IsDeclared-bound twice u start declared2 u_below start_below) end_below v_below) (a_below, start_below, end_below))
      (record { formula = b_below; from = start_below; to = end_below })
      (IsTrueKnown-learn p2 world after_end (holds a start end) (IsTrueKnown-bound p2 world after_start end v (IsTrueKnown-bound p2 world twice u start true2 started) ended) supposed) in
      IsTrueIn-agree m (count known) b p2 p [] world x y (Agree-back (count known) p p2 agree) goal.formula.1
      (subst (λ (s : Term). IsTrueIn m p2 [] world b x (time_of s)) end_is
      (subst (λ (s : Term). IsTrueIn m p2 [] world b (time_of s) (time_value m p2 [] end)) start_is concluded))

  -- the premise of a quantifier on the right, at each constant
  generalization : (p : Values) (world : ℕ) (known : Known) (s : Sort) (a : FormulaView) (u v : Term)
      → ((q : Values) → IsTrueSequent q world (declare s known) (instance_at (new_parameter known) a) u v)
      → IsTrueSequent p world known (forall_ s a) u v
  generalization p world known s a u v premise declared goal true_known t constant =
      let q = extended p (count known) t in
      let agree = extended_agrees p (count known) t in
      let c = new_parameter known in
      let shown : IsTrueIn m q [] world (instance_at c a) (time_value m q [] u) (time_value m q [] v) =
      premise q (IsDeclared-declare known s declared)
      (record {
        formula = instance_below (count (declare s known)) c (new_below known s) a (formula_below-declare known s a goal.formula);
        from = below-declare known s u goal.from;
        to = below-declare known s v goal.to;
      })
      (IsTrueKnown-declare p world known s t true_known declared constant) in
      moved (count known) q p (t ∷ []) world a u v (Agree-back (count known) p q agree) goal.formula goal.from goal.to
      ((IsTrueIn-instance m q c t (λ bounds. extended_at p (count known) t) a world (time_value m q [] u) (time_value m q [] v)).0 shown)

  -- the premise of a quantifier on the left, for the constant that there is
  witnessed : (p : Values) (world : ℕ) (known : Known) (s : Sort) (a : FormulaView) (from to : Term) (goal : FormulaView) (u v : Term)
      → Assumes known (holds (exists_ s a) from to)
      → ((q : Values) → IsTrueSequent q world (learn (holds (instance_at (new_parameter known) a) from to) (declare s known)) goal u v)
      → IsTrueSequent p world known goal u v
  witnessed p world known s a from to goal u v among premise declared goal_declared true_known =
      let exists : IsTrueIn m p [] world (exists_ s a) (time_value m p [] from) (time_value m p [] to) = true_known.hypotheses (holds (exists_ s a) from to) among in
      let below = declared.hypotheses (holds (exists_ s a) from to) among in
      let t = exists.0 in
      let q = extended p (count known) t in
      let agree = extended_agrees p (count known) t in
      let c = new_parameter known in
      let instance = holds (instance_at c a) from to in
      let is_true : IsTrueHypothesis m q world instance =
      (IsTrueIn-instance m q c t (λ bounds. extended_at p (count known) t) a world (time_value m q [] from) (time_value m q [] to)).1
      (moved (count known) p q (t ∷ []) world a from to agree below.0 below.1 below.2 exists.2) in
      moved (count known) q p [] world goal u v (Agree-back (count known) p q agree) goal_declared.formula goal_declared.from goal_declared.to
      (premise q
      (IsDeclared-learn (declare s known) instance (IsDeclared-declare known s declared)
      (instance_below (count (declare s known)) c (new_below known s) a (formula_below-declare known s a below.0), below-declare known s from below.1, below-declare known s to below.2))
      (record {
        formula = formula_below-declare known s goal goal_declared.formula;
        from = below-declare known s u goal_declared.from;
        to = below-declare known s v goal_declared.to;
      })
      (IsTrueKnown-learn q world (declare s known) instance (IsTrueKnown-declare p world known s t true_known declared exists.1) is_true))

  true_sequent : {known : Known} {goal : FormulaView} {u v : Term} → Derivable known goal u v → (p : Values) (world : ℕ) → IsTrueSequent p world known goal u v
  true_sequent {known = known} (init {name = name} {terms = terms} {u = u} {v = v} from to among begins ends) p world d g k =
      m.true_within world name _ (time_value m p [] from) (time_value m p [] to) (time_value m p [] u) (time_value m p [] v) (k.hypotheses (holds (atom name terms) from to) among)
      (IsUpTo-entailed p world known from u k begins) (IsUpTo-entailed p world known v to k ends)
  true_sequent {known = known} (cons_r {c = c} entailed) p world d g k = IsUpTo-entailed p world known c.low c.high k entailed
  true_sequent (inter_r {s = s} among) p world d g k = k.facts s among
  true_sequent (and_r left right) p world d g k =
      (true_sequent left p world d (record { formula = g.formula.0; from = g.from; to = g.to }) k, true_sequent right p world d (record { formula = g.formula.1; from = g.from; to = g.to }) k)
  true_sequent (or_r1 left) p world d g k = inl (true_sequent left p world d (record { formula = g.formula.0; from = g.from; to = g.to }) k)
  true_sequent (or_r2 right) p world d g k = inr (true_sequent right p world d (record { formula = g.formula.1; from = g.from; to = g.to }) k)
  true_sequent true_r p world d g k = tt
  true_sequent {known = known} (imp_r {a = a} {b = b} {u = u} {v = v} premise) p world d g k =
      implication p world known a b u v (λ q. true_sequent premise q world) d g k
  true_sequent {known = known} (forall_r {s = s} {a = a} {u = u} {v = v} premise) p world d g k =
      generalization p world known s a u v (λ q. true_sequent premise q world) d g k
  true_sequent {known = known} (exists_r {s = s} {a = a} {u = u} {v = v} t sorted premise) p world d g k =
      let c = value m p [] t in (
        c,
        sorted_value m p known.sorts k.sorts s t sorted,
        (IsTrueIn-instance m p t c (sorted_stands m p known.sorts k.sorts s t sorted) a world (time_value m p [] u) (time_value m p [] v)).0
            (true_sequent premise p world d
            (record { formula = instance_below (count known) t (sorted_below known.sorts s t sorted) a g.formula; from = g.from; to = g.to }) k),
      )
  true_sequent {known = known} (says_r {k = speaker} {u = u} {v = v} premise) p world d g k =
      λ other heeds. true_sequent premise p other (IsDeclared-speak known speaker u v d g.formula.0 g.from g.to)
      (record { formula = g.formula.1; from = g.from; to = g.to }) (IsTrueKnown-speak p world other known speaker u v k heeds)
  true_sequent (at_r premise) p world d g k =
      true_sequent premise p world d (record { formula = g.formula.0; from = g.formula.1.0; to = g.formula.1.1 }) k
  true_sequent {known = known} (cons_l c from to among premise) p world d g k =
      let below = d.hypotheses (holds (compare c) from to) among in
      true_sequent premise p world (IsDeclared-bound known c.low c.high d below.0.0 below.0.1) (record { formula = g.formula; from = g.from; to = g.to })
      (IsTrueKnown-bound p world known c.low c.high k (k.hypotheses (holds (compare c) from to) among))
  true_sequent {known = known} (inter_l s from to among premise) p world d g k =
      true_sequent premise p world (IsDeclared-observe known s d (d.hypotheses (holds (state s) from to) among).0) (record { formula = g.formula; from = g.from; to = g.to })
      (IsTrueKnown-observe p world known s k (k.hypotheses (holds (state s) from to) among))
  true_sequent {known = known} (and_l a b from to among premise) p world d g k =
      let below = d.hypotheses (holds (both a b) from to) among in
      let is_true : IsTrueIn m p [] world (both a b) (time_value m p [] from) (time_value m p [] to) = k.hypotheses (holds (both a b) from to) among in
      let first = holds a from to in
      let second = holds b from to in
      let once = learn first known in
      true_sequent premise p world
      (IsDeclared-learn once second (IsDeclared-learn known first d (below.0.0, below.1, below.2)) (below.0.1, below.1, below.2))
      (record { formula = g.formula; from = g.from; to = g.to })
      (IsTrueKnown-learn p world once second (IsTrueKnown-learn p world known first k is_true.0) is_true.1)
  true_sequent {known = known} (or_l a b from to among left right) p world d g k =
      let below = d.hypotheses (holds (either a b) from to) among in
      let is_true : IsTrueIn m p [] world (either a b) (time_value m p [] from) (time_value m p [] to) = k.hypotheses (holds (either a b) from to) among in
      ⊎_elim
      (λ (first : IsTrueIn m p [] world a (time_value m p [] from) (time_value m p [] to)).
      true_sequent left p world (IsDeclared-learn known (holds a from to) d (below.0.0, below.1, below.2)) (record { formula = g.formula; from = g.from; to = g.to })
      (IsTrueKnown-learn p world known (holds a from to) k first))
      (λ (second : IsTrueIn m p [] world b (time_value m p [] from) (time_value m p [] to)).
      true_sequent right p world (IsDeclared-learn known (holds b from to) d (below.0.1, below.1, below.2)) (record { formula = g.formula; from = g.from; to = g.to })
      (IsTrueKnown-learn p world known (holds b from to) k second))
      is_true
  true_sequent (false_l from to among) p world d g k = absurd (k.hypotheses (holds falsity from to) among)
  true_sequent {known = known} (imp_l a b from to x y among x_time y_time begins ends left right) p world d g k =
      let below = d.hypotheses (holds (implies a b) from to) among in
      let is_true : IsTrueIn m p [] world (implies a b) (time_value m p [] from) (time_value m p [] to) = k.hypotheses (holds (implies a b) from to) among in
      let x_below = sorted_below known.sorts sort.Time x x_time in
      let y_below = sorted_below known.sorts sort.Time y y_time in
      let given = true_sequent left p world d (record { formula = below.0.0; from = x_below; to = y_below }) k in
      true_sequent right p world (IsDeclared-learn known (holds b x y) d (below.0.1, x_below, y_below)) (record { formula = g.formula; from = g.from; to = g.to })
      (IsTrueKnown-learn p world known (holds b x y) k
      (is_true (time_value m p [] x) (time_value m p [] y) (IsUpTo-entailed p world known from x k begins) (IsUpTo-entailed p world known y to k ends) given))
  true_sequent {known = known} (forall_l s a from to t among sorted premise) p world d g k =
      let below = d.hypotheses (holds (forall_ s a) from to) among in
      let is_true : IsTrueIn m p [] world (forall_ s a) (time_value m p [] from) (time_value m p [] to) = k.hypotheses (holds (forall_ s a) from to) among in
      let c = value m p [] t in
      let instance = holds (instance_at t a) from to in
      true_sequent premise p world
      (IsDeclared-learn known instance d (instance_below (count known) t (sorted_below known.sorts s t sorted) a below.0, below.1, below.2))
      (record { formula = g.formula; from = g.from; to = g.to })
      (IsTrueKnown-learn p world known instance k
      ((IsTrueIn-instance m p t c (sorted_stands m p known.sorts k.sorts s t sorted) a world (time_value m p [] from) (time_value m p [] to)).1
      (is_true c (sorted_value m p known.sorts k.sorts s t sorted))))
  true_sequent {known = known} {goal = goal} {u = u} {v = v} (exists_l s a from to among premise) p world d g k =
      witnessed p world known s a from to goal u v among (λ q. true_sequent premise q world) d g k
  true_sequent {known = known} (says_l speaker a from to among premise) p world d g k =
      let below = d.hypotheses (holds (says speaker a) from to) among in
      let claimed = claims speaker a from to in
      true_sequent premise p world (IsDeclared-learn known claimed d (below.0.0, below.0.1, below.1, below.2)) (record { formula = g.formula; from = g.from; to = g.to })
      (IsTrueKnown-learn p world known claimed k (k.hypotheses (holds (says speaker a) from to) among))
  true_sequent {known = known} (claim speaker a from to among strong begins ends premise) p world d g k =
      let below = d.hypotheses (claims speaker a from to) among in
      let said : IsTrueIn m p [] world (says speaker a) (time_value m p [] from) (time_value m p [] to) = k.hypotheses (claims speaker a from to) among in
      let heeds = m.heeds_stronger world (value m p [] speaker) (value m p [] known.view.who) (time_value m p [] from) (time_value m p [] to) (time_value m p [] known.view.from)
      (time_value m p [] known.view.to) (strong_values p speaker known.view.who strong) (IsUpTo-entailed p world known from known.view.from k begins)
      (IsUpTo-entailed p world known known.view.to to k ends) k.view in
      true_sequent premise p world (IsDeclared-learn known (holds a from to) d (below.1, below.2, below.3)) (record { formula = g.formula; from = g.from; to = g.to })
      (IsTrueKnown-learn p world known (holds a from to) k (said world heeds))
  true_sequent {known = known} (at_l a x y from to among premise) p world d g k =
      let below = d.hypotheses (holds (on a x y) from to) among in
      true_sequent premise p world (IsDeclared-learn known (holds a x y) d (below.0.0, below.0.1.0, below.0.1.1)) (record { formula = g.formula; from = g.from; to = g.to })
      (IsTrueKnown-learn p world known (holds a x y) k (k.hypotheses (holds (on a x y) from to) among))

-- what is derivable is true, in each model, in each world in which all that is known is
pub Derivable-true_in_models : (m : Model) (params : Values) (world : ℕ) (known : Known) (goal : FormulaView) (u v : Term)
    → AreParametersDeclared known → IsGoalDeclared known goal u v → Derivable known goal u v
    → IsTrueKnown m params world known → IsTrueIn m params [] world goal (time_value m params [] u) (time_value m params [] v)
Derivable-true_in_models m params world known goal u v declared goal_declared derivable = true_sequent m derivable params world declared goal_declared
