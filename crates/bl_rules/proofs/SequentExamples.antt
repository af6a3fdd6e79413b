-- Sequents of one hypothesis, a truth or a claim of an atom.
use Rattle.std.proofs.Common.{ℕ, List, [], ◌∷◌, inl, refl, ap, sym, subst}
use Rattle.bl_syntax.specs.declared.terms.TimePoint.{TimePoint}
use Rattle.bl_syntax.specs.declared.terms.Term.{Term}
use Rattle.bl_syntax.specs.declared.terms.Term.TheVariants.{Time}
use Rattle.bl_syntax.specs.Formula.{FormulaView, atom, implies, says}
use Rattle.bl_syntax.specs.TimeOrder.{IsUpTo}
use Rattle.bl_syntax.specs.Terms.{IsAtLeastAsStrong}
use Rattle.bl_syntax.specs.Entailment.{Entails}
use Rattle.bl_syntax.proofs.EntailmentLemmas.{Entails-itself}
use Rattle.std.proofs.lemmas.List.Elements.{Contains-push}
use Rattle.bl_rules.specs.Sequent.{Hypothesis, holds, claims, View, Known, speak}
use Rattle.bl_rules.specs.Derivable.{Assumes, Derivable, init, says_r, claim}
use Rattle.bl_rules.specs.FromClauses.{IsOfClause, AssumesClauses, IsTrueOn, assumed, claimed, conditional, IsTrueWithin}
use Rattle.bl_rules.specs.Examples.{one_hypothesis}
use Rattle.bl_rules.proofs.Membership.{IsClaim, Contains-nothing, Contains-head}
use Rattle.bl_rules.proofs.FromClausesLemmas.{Derivable-from_clauses}
use Rattle.bl_rules.proofs.YieldLemmas.{IsUpTo-entailed, who_claims, from_of, to_of}
use Rattle.bl_rules.proofs.ExampleLemmas.{Contains-one}

-- without hypotheses nothing is true
nothing_true : (known : Known) (a : FormulaView) (from to : Term) → ((h : Hypothesis) → Assumes known h → ⊥) → IsTrueOn known a from to → ⊥
nothing_true known _ _ _ none (assumed a from to among) = none (holds a from to) among
nothing_true known _ _ _ none (claimed a from to k among strong begins ends) = none (claims k a from to) among
nothing_true known _ _ _ none (conditional a from to guard first last is_true met from_time to_time begins ends) = nothing_true known (implies guard a) first last none is_true

-- nor where the one hypothesis is a claim that does not count in the view
claim_uncounted : (k : Term) (a : FormulaView) (u v : Term) (view : View)
    → (IsAtLeastAsStrong k view.who → Entails [] u view.from → Entails [] view.to v → ⊥)
    → (b : FormulaView) (from to : Term) → IsTrueOn (one_hypothesis (claims k a u v) view) b from to → ⊥
claim_uncounted k a u v view uncounted _ _ _ (assumed b from to among) =
    absurd (subst IsClaim (Contains-one (claims k a u v) (holds b from to) among) tt)
claim_uncounted k a u v view uncounted _ _ _ (claimed b from to j among strong begins ends) =
    let same = sym (Contains-one (claims k a u v) (claims j b from to) among) in
    uncounted (subst (λ (t : Term). IsAtLeastAsStrong t view.who) (ap who_claims same) strong)
    (subst (λ (t : Term). Entails [] t view.from) (ap from_of same) begins)
    (subst (λ (t : Term). Entails [] view.to t) (ap to_of same) ends)
claim_uncounted k a u v view uncounted _ _ _ (conditional b from to guard first last is_true met from_time to_time begins ends) =
    claim_uncounted k a u v view uncounted (implies guard b) first last is_true

module _ (name : List ℕ) (terms : List Term) where
  abbrev fact : FormulaView
  fact = atom name terms

  truth_is_of_clause : (u v : Term) (view : View) → AssumesClauses (one_hypothesis (holds fact u v) view)
  truth_is_of_clause u v view h among = subst IsOfClause (Contains-one (holds fact u v) h among) tt

  claim_is_of_clause : (k u v : Term) (view : View) → AssumesClauses (one_hypothesis (claims k fact u v) view)
  claim_is_of_clause k u v view h among = subst IsOfClause (Contains-one (claims k fact u v) h among) tt

  pub truth_holds : (u v : Term) (view : View) → Derivable (one_hypothesis (holds fact u v) view) fact u v
  truth_holds u v view = init u v (Contains-head (holds fact u v) (holds fact u v) [] refl) (Entails-itself [] u) (Entails-itself [] v)

  pub truth_is_not_said : (u v : Term) (view : View) (k x y : Term) → Derivable (one_hypothesis (holds fact u v) view) (says k fact) x y → ⊥
  truth_is_not_said u v view k x y derivable =
      let follows : IsTrueWithin (speak k x y (one_hypothesis (holds fact u v) view)) fact x y =
      (Derivable-from_clauses (one_hypothesis (holds fact u v) view) (says k fact) x y (truth_is_of_clause u v view) tt).0 derivable in
      nothing_true (speak k x y (one_hypothesis (holds fact u v) view)) fact follows.from follows.to (λ h among. Contains-nothing h among) follows.true_on

  pub claim_is_said : (k u v : Term) (view : View) → Derivable (one_hypothesis (claims k fact u v) view) (says k fact) u v
  claim_is_said k u v view =
      says_r (claim k fact u v (Contains-head (claims k fact u v) (claims k fact u v) [] refl) (inl refl) (Entails-itself [] u) (Entails-itself [] v)
      (init u v (Contains-push (claims k fact u v ∷ []) (holds fact u v)) (Entails-itself [] u) (Entails-itself [] v)))

  uncounted_claim : (k u v : Term) (view : View) (x y : Term)
      → (IsAtLeastAsStrong k view.who → Entails [] u view.from → Entails [] view.to v → ⊥)
      → Derivable (one_hypothesis (claims k fact u v) view) fact x y → ⊥
  uncounted_claim k u v view x y uncounted derivable =
      let follows : IsTrueWithin (one_hypothesis (claims k fact u v) view) fact x y =
      (Derivable-from_clauses (one_hypothesis (claims k fact u v) view) fact x y (claim_is_of_clause k u v view) tt).0 derivable in
      claim_uncounted k fact u v view uncounted fact follows.from follows.to follows.true_on

  pub weak_claim : (k u v : Term) (view : View) (x y : Term) → (IsAtLeastAsStrong k view.who → ⊥)
      → Derivable (one_hypothesis (claims k fact u v) view) fact x y → ⊥
  weak_claim k u v view x y weak = uncounted_claim k u v view x y (λ strong begins ends. weak strong)

  pub late_claim : (k : Term) (from to first last : TimePoint) (x y : Term) → (IsUpTo from first → ⊥)
      → Derivable (one_hypothesis (claims k fact (Time from) (Time to)) (record { who = k; from = Time first; to = Time last })) fact x y → ⊥
  late_claim k from to first last x y late =
      uncounted_claim k (Time from) (Time to) (record { who = k; from = Time first; to = Time last }) x y (λ strong begins ends. late (IsUpTo-entailed from first begins))

  pub short_claim : (k : Term) (from to first last : TimePoint) (x y : Term) → (IsUpTo last to → ⊥)
      → Derivable (one_hypothesis (claims k fact (Time from) (Time to)) (record { who = k; from = Time first; to = Time last })) fact x y → ⊥
  short_claim k from to first last x y short =
      uncounted_claim k (Time from) (Time to) (record { who = k; from = Time first; to = Time last }) x y (λ strong begins ends. short (IsUpTo-entailed last to ends))
