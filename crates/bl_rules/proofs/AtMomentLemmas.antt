-- A moment instead of the current time, throughout, keeps what is derivable.
use Rattle.std.proofs.Common.{◌≡◌, ℤ, List, [], ◌∷◌, ◌++◌, map, ⊎_elim, subst}
use Rattle.std.specs.Prelude.{Contains}
use Rattle.std.proofs.lemmas.List.Elements.{Contains-append_left, Contains-push, Contains-push_cases}
use Rattle.bl_syntax.specs.declared.terms.Sort.TheVariants.{Time}
use Rattle.bl_syntax.specs.declared.terms.Term.{Term}
use Rattle.bl_syntax.specs.declared.terms.StatePred.{StatePred}
use Rattle.bl_syntax.specs.declared.terms.Constraint.{Constraint}
use Rattle.bl_syntax.specs.Formula.{FormulaView}
use Rattle.bl_syntax.specs.Terms.{term_at, constraint_at, state_at}
use Rattle.bl_syntax.specs.Substitution.{instance_at, formula_at}
use Rattle.bl_syntax.specs.Entailment.{Entails}
use Rattle.bl_syntax.proofs.EntailmentLemmas.{Entails-at, Entails-entailed, Entails-more, Entails-constrained}
use Rattle.bl_rules.specs.Sequent.{Hypothesis, holds, claims, Known, claims_among, new_parameter, new_start, new_end}
use Rattle.bl_rules.specs.Derivable.{Derivable, init, cons_r, inter_r, and_r, or_r1, or_r2, true_r, imp_r, forall_r, exists_r, says_r, at_r, cons_l, inter_l, and_l, or_l, false_l, imp_l, forall_l, exists_l, says_l, claim, at_l}
use Rattle.bl_rules.specs.AtMoment.{hypothesis_at, view_at, known_at}
use Rattle.bl_rules.proofs.Membership.{IsClaim, Contains-map, Contains-map_cases, Contains-claims_among, claims_among-Contains}
use Rattle.bl_rules.proofs.AtMomentTerms.{HasSort-at, IsAtLeastAsStrong-at, instance_at-at}

-- with these instead of its own, and the view at the moment
abbrev pub given_at : ℤ → List Constraint → List StatePred → List Hypothesis → Known → Known
given_at moment psi facts hs known = record { sorts = known.sorts; constraints = psi; facts = facts; hypotheses = hs; view = view_at moment known.view }

-- each item of the second list, changed, is in the first
abbrev pub IncludesChanged : {X : Type 0} → (X → X) → List X → List X → Type 0
IncludesChanged {X} f larger smaller = (x : X) → Contains smaller x → Contains larger (f x)

IncludesChanged-push : {X : Type 0} (f : X → X) (larger smaller : List X) (x : X) → IncludesChanged f larger smaller → IncludesChanged f (larger ++ f x ∷ []) (smaller ++ x ∷ [])
IncludesChanged-push f larger smaller x includes y h = ⊎_elim
    (λ (old : Contains smaller y). Contains-append_left larger (f x ∷ []) (f y) (includes y old))
    (λ (new : x ≡ y). subst (λ z. Contains (larger ++ f x ∷ []) (f z)) new (Contains-push larger (f x)))
    (Contains-push_cases smaller x y h)

module _ (moment : ℤ) where
  pub record EntailsAllAt (psi old : List Constraint) : Type 0 where
    pub each : (c : Constraint) → Contains old c → Entails psi (term_at moment c.low) (term_at moment c.high)

  EntailsAllAt-push : (psi old : List Constraint) (c : Constraint) → EntailsAllAt psi old → EntailsAllAt (psi ++ constraint_at moment c ∷ []) (old ++ c ∷ [])
  EntailsAllAt-push psi old c all = record {
    each = λ d among. ⊎_elim
        (λ (before : Contains old d). Entails-more psi (psi ++ constraint_at moment c ∷ []) (term_at moment d.low) (term_at moment d.high)
        (λ e. Contains-append_left psi (constraint_at moment c ∷ []) e) (all.each d before))
        (λ (same : c ≡ d). subst (λ (e : Constraint). Entails (psi ++ constraint_at moment c ∷ []) (term_at moment e.low) (term_at moment e.high)) same
        (Entails-constrained (psi ++ constraint_at moment c ∷ []) (constraint_at moment c) (Contains-push psi (constraint_at moment c))))
        (Contains-push_cases old c d among);
  }

  entailed_at : (psi old : List Constraint) (u v : Term) → EntailsAllAt psi old → Entails old u v → Entails psi (term_at moment u) (term_at moment v)
  entailed_at psi old u v all entailed =
      Entails-entailed (map (constraint_at moment) old) psi (term_at moment u) (term_at moment v)
      (record {
        each = λ d among.
            let was = Contains-map_cases (constraint_at moment) old d among in
            subst (λ (e : Constraint). Entails psi e.low e.high) was.2 (all.each was.0 was.1);
      })
      (Entails-at moment old u v entailed)

  IsClaim-at : (h : Hypothesis) → IsClaim h → IsClaim (hypothesis_at moment h)
  IsClaim-at (holds a u v) is_claim = is_claim
  IsClaim-at (claims k a u v) is_claim = is_claim

  claims_at : (larger smaller : List Hypothesis) → IncludesChanged (hypothesis_at moment) larger smaller
      → IncludesChanged (hypothesis_at moment) (claims_among larger) (claims_among smaller)
  claims_at larger smaller includes h among =
      let was = claims_among-Contains smaller h among in
      Contains-claims_among larger (hypothesis_at moment h) (IsClaim-at h was.1) (includes h was.0)

  pub Derivable-at : {known : Known} {goal : FormulaView} {u v : Term} → Derivable known goal u v
      → (psi : List Constraint) (facts : List StatePred) (hs : List Hypothesis)
      → EntailsAllAt psi known.constraints → IncludesChanged (state_at moment) facts known.facts → IncludesChanged (hypothesis_at moment) hs known.hypotheses
      → Derivable (given_at moment psi facts hs known) (formula_at moment goal) (term_at moment u) (term_at moment v)
  Derivable-at {known = known} (init {u = u} {v = v} from to among low high) psi facts hs p e h =
      init (term_at moment from) (term_at moment to) (h _ among) (entailed_at psi known.constraints from u p low) (entailed_at psi known.constraints v to p high)
  Derivable-at {known = known} (cons_r {c = c} entailed) psi facts hs p e h = cons_r (entailed_at psi known.constraints c.low c.high p entailed)
  Derivable-at (inter_r among) psi facts hs p e h = inter_r (e _ among)
  Derivable-at (and_r left right) psi facts hs p e h = and_r (Derivable-at left psi facts hs p e h) (Derivable-at right psi facts hs p e h)
  Derivable-at (or_r1 left) psi facts hs p e h = or_r1 (Derivable-at left psi facts hs p e h)
  Derivable-at (or_r2 right) psi facts hs p e h = or_r2 (Derivable-at right psi facts hs p e h)
  Derivable-at true_r psi facts hs p e h = true_r
  Derivable-at {known = known} (imp_r {a = a} {u = u} {v = v} premise) psi facts hs p e h =
      let start : Constraint = record { low = u; high = new_start known } in
      let end : Constraint = record { low = new_end known; high = v } in
      let supposed = holds a (new_start known) (new_end known) in
      imp_r (Derivable-at premise ((psi ++ constraint_at moment start ∷ []) ++ constraint_at moment end ∷ []) facts (hs ++ hypothesis_at moment supposed ∷ [])
      (EntailsAllAt-push (psi ++ constraint_at moment start ∷ []) (known.constraints ++ start ∷ []) end (EntailsAllAt-push psi known.constraints start p))
      e (IncludesChanged-push (hypothesis_at moment) hs known.hypotheses supposed h))
  Derivable-at {known = known} (forall_r {a = a} premise) psi facts hs p e h =
      forall_r (rw (instance_at-at moment (new_parameter known) a) at (Derivable-at premise psi facts hs p e h))
  Derivable-at {known = known} (exists_r {s = s} {a = a} t sorted premise) psi facts hs p e h =
      exists_r (term_at moment t) (HasSort-at moment known.sorts [] s t sorted) (rw (instance_at-at moment t a) at (Derivable-at premise psi facts hs p e h))
  Derivable-at {known = known} (says_r premise) psi facts hs p e h =
      says_r (Derivable-at premise psi facts (claims_among hs) p e (claims_at hs known.hypotheses h))
  Derivable-at (at_r premise) psi facts hs p e h = at_r (Derivable-at premise psi facts hs p e h)
  Derivable-at {known = known} (cons_l c from to among premise) psi facts hs p e h =
      cons_l (constraint_at moment c) (term_at moment from) (term_at moment to) (h _ among)
      (Derivable-at premise (psi ++ constraint_at moment c ∷ []) facts hs (EntailsAllAt-push psi known.constraints c p) e h)
  Derivable-at {known = known} (inter_l s from to among premise) psi facts hs p e h =
      inter_l (state_at moment s) (term_at moment from) (term_at moment to) (h _ among)
      (Derivable-at premise psi (facts ++ state_at moment s ∷ []) hs p (IncludesChanged-push (state_at moment) facts known.facts s e) h)
  Derivable-at {known = known} (and_l a b from to among premise) psi facts hs p e h =
      let first = holds a from to in
      let second = holds b from to in
      and_l (formula_at moment a) (formula_at moment b) (term_at moment from) (term_at moment to) (h _ among)
      (Derivable-at premise psi facts ((hs ++ hypothesis_at moment first ∷ []) ++ hypothesis_at moment second ∷ []) p e
      (IncludesChanged-push (hypothesis_at moment) (hs ++ hypothesis_at moment first ∷ []) (known.hypotheses ++ first ∷ []) second
      (IncludesChanged-push (hypothesis_at moment) hs known.hypotheses first h)))
  Derivable-at {known = known} (or_l a b from to among left right) psi facts hs p e h =
      let first = holds a from to in
      let second = holds b from to in
      or_l (formula_at moment a) (formula_at moment b) (term_at moment from) (term_at moment to) (h _ among)
      (Derivable-at left psi facts (hs ++ hypothesis_at moment first ∷ []) p e (IncludesChanged-push (hypothesis_at moment) hs known.hypotheses first h))
      (Derivable-at right psi facts (hs ++ hypothesis_at moment second ∷ []) p e (IncludesChanged-push (hypothesis_at moment) hs known.hypotheses second h))
  Derivable-at (false_l from to among) psi facts hs p e h = false_l (term_at moment from) (term_at moment to) (h _ among)
  Derivable-at {known = known} (imp_l a b from to x y among x_time y_time low high left right) psi facts hs p e h =
      let then = holds b x y in
      imp_l (formula_at moment a) (formula_at moment b) (term_at moment from) (term_at moment to) (term_at moment x) (term_at moment y) (h _ among)
      (HasSort-at moment known.sorts [] Time x x_time) (HasSort-at moment known.sorts [] Time y y_time)
      (entailed_at psi known.constraints from x p low) (entailed_at psi known.constraints y to p high)
      (Derivable-at left psi facts hs p e h)
      (Derivable-at right psi facts (hs ++ hypothesis_at moment then ∷ []) p e (IncludesChanged-push (hypothesis_at moment) hs known.hypotheses then h))
  Derivable-at {known = known} (forall_l s a from to t among sorted premise) psi facts hs p e h =
      let instance = holds (instance_at t a) from to in
      let instance_now = holds (instance_at (term_at moment t) (formula_at moment a)) (term_at moment from) (term_at moment to) in
      forall_l s (formula_at moment a) (term_at moment from) (term_at moment to) (term_at moment t) (h _ among) (HasSort-at moment known.sorts [] s t sorted)
      (Derivable-at premise psi facts (hs ++ instance_now ∷ []) p e
      (rw (instance_at-at moment t a) at (IncludesChanged-push (hypothesis_at moment) hs known.hypotheses instance h)))
  Derivable-at {known = known} (exists_l s a from to among premise) psi facts hs p e h =
      let t = new_parameter known in
      let instance = holds (instance_at t a) from to in
      let instance_now = holds (instance_at t (formula_at moment a)) (term_at moment from) (term_at moment to) in
      exists_l s (formula_at moment a) (term_at moment from) (term_at moment to) (h _ among)
      (Derivable-at premise psi facts (hs ++ instance_now ∷ []) p e
      (rw (instance_at-at moment t a) at (IncludesChanged-push (hypothesis_at moment) hs known.hypotheses instance h)))
  Derivable-at {known = known} (says_l k a from to among premise) psi facts hs p e h =
      let claimed = claims k a from to in
      says_l (term_at moment k) (formula_at moment a) (term_at moment from) (term_at moment to) (h _ among)
      (Derivable-at premise psi facts (hs ++ hypothesis_at moment claimed ∷ []) p e (IncludesChanged-push (hypothesis_at moment) hs known.hypotheses claimed h))
  Derivable-at {known = known} (claim k a from to among strong low high premise) psi facts hs p e h =
      let claimed = holds a from to in
      claim (term_at moment k) (formula_at moment a) (term_at moment from) (term_at moment to) (h _ among) (IsAtLeastAsStrong-at moment k known.view.who strong)
      (entailed_at psi known.constraints from known.view.from p low) (entailed_at psi known.constraints known.view.to to p high)
      (Derivable-at premise psi facts (hs ++ hypothesis_at moment claimed ∷ []) p e (IncludesChanged-push (hypothesis_at moment) hs known.hypotheses claimed h))
  Derivable-at {known = known} (at_l a x y from to among premise) psi facts hs p e h =
      let located = holds a x y in
      at_l (formula_at moment a) (term_at moment x) (term_at moment y) (term_at moment from) (term_at moment to) (h _ among)
      (Derivable-at premise psi facts (hs ++ hypothesis_at moment located ∷ []) p e (IncludesChanged-push (hypothesis_at moment) hs known.hypotheses located h))

  -- the moment through the whole sequent
  pub Derivable-known_at : (known : Known) (goal : FormulaView) (u v : Term) → Derivable known goal u v
      → Derivable (known_at moment known) (formula_at moment goal) (term_at moment u) (term_at moment v)
  Derivable-known_at known goal u v derivable =
      let now = known_at moment known in
      Derivable-at derivable now.constraints now.facts now.hypotheses
      (record {
        each = λ c among. Entails-constrained now.constraints (constraint_at moment c) (Contains-map (constraint_at moment) known.constraints c among);
      })
      (Contains-map (state_at moment) known.facts)
      (Contains-map (hypothesis_at moment) known.hypotheses)
