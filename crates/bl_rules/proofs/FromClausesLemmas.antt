-- What is derivable from clauses is what follows from them.
use Rattle.std.proofs.Common.{◌≡◌, ◌↔◌, inl, inr, List, [], ◌∷◌, ◌++◌, refl, subst, ⊎_elim}
use Rattle.std.proofs.lemmas.List.Elements.{Contains-append_left, Contains-push, Contains-push_cases}
use Rattle.bl_syntax.specs.declared.terms.Sort.{Sort}
use Rattle.bl_syntax.specs.declared.terms.Sort.TheVariants as sort
use Rattle.bl_syntax.specs.WellSorted.{HasSort}
use Rattle.bl_syntax.specs.declared.terms.Term.{Term}
use Rattle.bl_syntax.specs.Formula.{FormulaView, atom, compare, state, both, either, implies, truth, falsity, forall_, exists_, says, on}
use Rattle.bl_syntax.specs.Terms.{IsAtLeastAsStrong}
use Rattle.bl_syntax.specs.Entailment.{Entails, EntailsAll}
use Rattle.bl_syntax.proofs.EntailmentLemmas.{Entails-entailed, Entails-constrained}
use Rattle.bl_rules.specs.Sequent.{Hypothesis, holds, claims, View, Known, learn, speak}
use Rattle.bl_rules.specs.Derivable.{Assumes, IsNotAfter, Derivable, init, cons_r, inter_r, and_r, or_r1, or_r2, true_r, imp_r, forall_r, exists_r, says_r, at_r, cons_l, inter_l, and_l, or_l, false_l, imp_l, forall_l, exists_l, says_l, claim, at_l}
use Rattle.bl_rules.specs.FromClauses.{IsGuard, IsGuardMet, IsClause, AssumesClauses, IsSimple, IsTrueOn, assumed, claimed, conditional, FollowsFromClauses}
use Rattle.bl_rules.specs.Richer.{Includes}
use Rattle.bl_rules.proofs.RicherLemmas.{Derivable-richer}
use Rattle.bl_rules.proofs.Membership.{IsClaim, Includes-push, Contains-claims_among, claims_among-Contains}

-- the hypothesis is one of the source, or a truth there
abbrev IsSourced : Known → Hypothesis → Type 0
IsSourced source (holds a u v) = IsTrueOn source a u v
IsSourced source (claims k a u v) = Assumes source (claims k a u v)

-- all that is known has come from the source
record IsFrom (source known : Known) : Type 0 where
  constraints : EntailsAll source.constraints known.constraints
  facts : Includes source.facts known.facts
  hypotheses : (h : Hypothesis) → Assumes known h → IsSourced source h
  view : known.view ≡ source.view
  sorts : known.sorts ≡ source.sorts

clause_true : (source : Known) (a : FormulaView) (u v : Term) → AssumesClauses source → IsTrueOn source a u v → IsClause a
clause_true source _ _ _ clauses (assumed a u v among) = clauses (holds a u v) among
clause_true source _ _ _ clauses (claimed a u v k among strong begins ends) = clauses (claims k a u v) among
clause_true source _ _ _ clauses (conditional a u v guard first last is_true met u_time v_time begins ends) =
    (clause_true source (implies guard a) first last clauses is_true).1

AssumesClauses-speak : (k u v : Term) (source : Known) → AssumesClauses source → AssumesClauses (speak k u v source)
AssumesClauses-speak k u v source clauses h among = clauses h (claims_among-Contains source.hypotheses h among).0

claim_sourced : (source : Known) (h : Hypothesis) → IsClaim h → IsSourced source h → (k u v : Term) → IsSourced (speak k u v source) h
claim_sourced source (holds a u v) is_claim sourced k from to = absurd is_claim
claim_sourced source (claims j a u v) is_claim sourced k from to = Contains-claims_among source.hypotheses (claims j a u v) tt sourced

IsFrom-speak : (k u v : Term) (source known : Known) → IsFrom source known → IsFrom (speak k u v source) (speak k u v known)
IsFrom-speak k u v source known from = record {
  constraints = from.constraints;
  facts = from.facts;
  hypotheses = λ h among.
      let was = claims_among-Contains known.hypotheses h among in
      claim_sourced source h was.1 (from.hypotheses h was.0) k u v;
  view = refl;
  sorts = from.sorts;
}

IsFrom-learn : (source known : Known) (a : FormulaView) (u v : Term) → IsFrom source known → IsTrueOn source a u v → IsFrom source (learn (holds a u v) known)
IsFrom-learn source known a u v from is_true = record {
  constraints = from.constraints;
  facts = from.facts;
  hypotheses = λ h among. ⊎_elim
      (λ (before : Assumes known h). from.hypotheses h before)
      (λ same. subst (IsSourced source) same is_true)
      (Contains-push_cases known.hypotheses (holds a u v) h among);
  view = from.view;
  sorts = from.sorts;
}

-- a claim that counts in the view of what is known counts in the source's
claim_counts : (source known : Known) (k : Term) (a : FormulaView) (u v : Term) → IsFrom source known → Assumes known (claims k a u v)
    → IsAtLeastAsStrong k known.view.who → IsNotAfter known u known.view.from → IsNotAfter known known.view.to v → IsTrueOn source a u v
claim_counts source known k a u v from among strong begins ends = claimed a u v k (from.hypotheses (claims k a u v) among)
    (subst (λ (view : View). IsAtLeastAsStrong k view.who) from.view strong)
    (subst (λ (view : View). Entails source.constraints u view.from) from.view (Entails-entailed known.constraints source.constraints u known.view.from from.constraints begins))
    (subst (λ (view : View). Entails source.constraints view.to v) from.view (Entails-entailed known.constraints source.constraints known.view.to v from.constraints ends))

IsSimple-guard : (g : FormulaView) → IsGuard g → IsSimple g
IsSimple-guard (atom name terms) guard = absurd guard
IsSimple-guard (compare c) guard = tt
IsSimple-guard (state s) guard = tt
IsSimple-guard (both a b) guard = (IsSimple-guard a guard.0, IsSimple-guard b guard.1)
IsSimple-guard (either a b) guard = (IsSimple-guard a guard.0, IsSimple-guard b guard.1)
IsSimple-guard (implies a b) guard = absurd guard
IsSimple-guard truth guard = tt
IsSimple-guard falsity guard = tt
IsSimple-guard (forall_ s a) guard = absurd guard
IsSimple-guard (exists_ s a) guard = absurd guard
IsSimple-guard (says k a) guard = absurd guard
IsSimple-guard (on a u v) guard = absurd guard

IsGuardMet-follows : (known : Known) (g : FormulaView) (u v : Term) → IsGuard g → FollowsFromClauses known g u v → IsGuardMet known.constraints known.facts g
IsGuardMet-follows known (atom name terms) u v guard h = absurd guard
IsGuardMet-follows known (compare c) u v guard h = h
IsGuardMet-follows known (state s) u v guard h = h
IsGuardMet-follows known (both a b) u v guard h = (IsGuardMet-follows known a u v guard.0 h.0, IsGuardMet-follows known b u v guard.1 h.1)
IsGuardMet-follows known (either a b) u v guard h = ⊎_elim (λ left. inl (IsGuardMet-follows known a u v guard.0 left)) (λ right. inr (IsGuardMet-follows known b u v guard.1 right)) h
IsGuardMet-follows known (implies a b) u v guard h = absurd guard
IsGuardMet-follows known truth u v guard h = tt
IsGuardMet-follows known falsity u v guard h = h
IsGuardMet-follows known (forall_ s a) u v guard h = absurd guard
IsGuardMet-follows known (exists_ s a) u v guard h = absurd guard
IsGuardMet-follows known (says k a) u v guard h = absurd guard
IsGuardMet-follows known (on a u v) x y guard h = absurd guard

Follows-from_clauses : {known : Known} {goal : FormulaView} {u v : Term} → Derivable known goal u v
    → (source : Known) → IsFrom source known → AssumesClauses source → IsSimple goal → FollowsFromClauses source goal u v
Follows-from_clauses {known = known} (init {u = u} {v = v} first last among begins ends) source from clauses simple = record {
  from = first;
  to = last;
  true_on = from.hypotheses _ among;
  begins = Entails-entailed known.constraints source.constraints first u from.constraints begins;
  ends = Entails-entailed known.constraints source.constraints v last from.constraints ends;
}
Follows-from_clauses {known = known} (cons_r {c = c} entailed) source from clauses simple = Entails-entailed known.constraints source.constraints c.low c.high from.constraints entailed
Follows-from_clauses (inter_r among) source from clauses simple = from.facts _ among
Follows-from_clauses (and_r left right) source from clauses simple = (Follows-from_clauses left source from clauses simple.0, Follows-from_clauses right source from clauses simple.1)
Follows-from_clauses (or_r1 left) source from clauses simple = inl (Follows-from_clauses left source from clauses simple.0)
Follows-from_clauses (or_r2 right) source from clauses simple = inr (Follows-from_clauses right source from clauses simple.1)
Follows-from_clauses true_r source from clauses simple = tt
Follows-from_clauses (imp_r premise) source from clauses simple = absurd simple
Follows-from_clauses (forall_r premise) source from clauses simple = absurd simple
Follows-from_clauses (exists_r t sorted premise) source from clauses simple = absurd simple
Follows-from_clauses {known = known} (says_r {k = k} {u = u} {v = v} premise) source from clauses simple =
    Follows-from_clauses premise (speak k u v source) (IsFrom-speak k u v source known from) (AssumesClauses-speak k u v source clauses) simple
Follows-from_clauses (at_r premise) source from clauses simple = Follows-from_clauses premise source from clauses simple
Follows-from_clauses (cons_l c first last among premise) source from clauses simple = absurd (clause_true source (compare c) first last clauses (from.hypotheses _ among))
Follows-from_clauses (inter_l s first last among premise) source from clauses simple = absurd (clause_true source (state s) first last clauses (from.hypotheses _ among))
Follows-from_clauses (and_l a b first last among premise) source from clauses simple = absurd (clause_true source (both a b) first last clauses (from.hypotheses _ among))
Follows-from_clauses (or_l a b first last among left right) source from clauses simple = absurd (clause_true source (either a b) first last clauses (from.hypotheses _ among))
Follows-from_clauses (false_l first last among) source from clauses simple = absurd (clause_true source falsity first last clauses (from.hypotheses _ among))
Follows-from_clauses {known = known} (imp_l a b first last x y among x_time y_time begins ends left right) source from clauses simple =
    let is_true : IsTrueOn source (implies a b) first last = from.hypotheses (holds (implies a b) first last) among in
    let guard = (clause_true source (implies a b) first last clauses is_true).0 in
    let met = IsGuardMet-follows source a x y guard (Follows-from_clauses left source from clauses (IsSimple-guard a guard)) in
    Follows-from_clauses right source
    (IsFrom-learn source known b x y from (conditional b x y a first last is_true met
    (subst (λ (sorts : List Sort). HasSort sorts [] sort.Time x) from.sorts x_time) (subst (λ (sorts : List Sort). HasSort sorts [] sort.Time y) from.sorts y_time)
    (Entails-entailed known.constraints source.constraints first x from.constraints begins) (Entails-entailed known.constraints source.constraints y last from.constraints ends)))
    clauses simple
Follows-from_clauses (forall_l s a first last t among sorted premise) source from clauses simple = absurd (clause_true source (forall_ s a) first last clauses (from.hypotheses _ among))
Follows-from_clauses (exists_l s a first last among premise) source from clauses simple = absurd (clause_true source (exists_ s a) first last clauses (from.hypotheses _ among))
Follows-from_clauses (says_l k a first last among premise) source from clauses simple = absurd (clause_true source (says k a) first last clauses (from.hypotheses _ among))
Follows-from_clauses {known = known} (claim k a first last among strong begins ends premise) source from clauses simple =
    Follows-from_clauses premise source (IsFrom-learn source known a first last from (claim_counts source known k a first last from among strong begins ends)) clauses simple
Follows-from_clauses (at_l a x y first last among premise) source from clauses simple = absurd (clause_true source (on a x y) first last clauses (from.hypotheses _ among))

sourced_itself : (known : Known) (h : Hypothesis) → Assumes known h → IsSourced known h
sourced_itself known (holds a u v) among = assumed a u v among
sourced_itself known (claims k a u v) among = among

Derivable-met : (known : Known) (g : FormulaView) (u v : Term) → IsGuardMet known.constraints known.facts g → Derivable known g u v
Derivable-met known (atom name terms) u v met = absurd met
Derivable-met known (compare c) u v met = cons_r met
Derivable-met known (state s) u v met = inter_r met
Derivable-met known (both a b) u v met = and_r (Derivable-met known a u v met.0) (Derivable-met known b u v met.1)
Derivable-met known (either a b) u v met = ⊎_elim (λ left. or_r1 (Derivable-met known a u v left)) (λ right. or_r2 (Derivable-met known b u v right)) met
Derivable-met known (implies a b) u v met = absurd met
Derivable-met known truth u v met = true_r
Derivable-met known falsity u v met = absurd met
Derivable-met known (forall_ s a) u v met = absurd met
Derivable-met known (exists_ s a) u v met = absurd met
Derivable-met known (says k a) u v met = absurd met
Derivable-met known (on a from to) u v met = absurd met

-- with hypotheses that include these, and all else as it was
with_hypotheses : (known : Known) (hypotheses : List Hypothesis) (goal : FormulaView) (u v : Term) → Includes hypotheses known.hypotheses
    → Derivable known goal u v → Derivable (record known { hypotheses = hypotheses }) goal u v
with_hypotheses known hypotheses goal u v includes derivable =
    Derivable-richer derivable known.constraints known.facts hypotheses
    (record { each = λ c among. Entails-constrained known.constraints c among }) (λ s among. among) includes

-- what is true may be used
pub Derivable-using : (known : Known) (a : FormulaView) (from to : Term) (goal : FormulaView) (u v : Term) → IsTrueOn known a from to
    → Derivable (learn (holds a from to) known) goal u v → Derivable known goal u v
Derivable-using known _ _ _ goal u v (assumed a from to among) derivable =
    with_hypotheses (learn (holds a from to) known) known.hypotheses goal u v
    (λ h before. ⊎_elim (λ (old : Assumes known h). old) (λ same. subst (λ (g : Hypothesis). Assumes known g) same among) (Contains-push_cases known.hypotheses (holds a from to) h before))
    derivable
Derivable-using known _ _ _ goal u v (claimed a from to k among strong begins ends) derivable = claim k a from to among strong begins ends derivable
Derivable-using known _ _ _ goal u v (conditional a from to guard first last is_true met from_time to_time begins ends) derivable =
    let rule = holds (implies guard a) first last in
    Derivable-using known (implies guard a) first last goal u v is_true
    (imp_l guard a first last from to (Contains-push known.hypotheses rule) from_time to_time begins ends
    (Derivable-met (learn rule known) guard from to met)
    (with_hypotheses (learn (holds a from to) known) ((known.hypotheses ++ rule ∷ []) ++ holds a from to ∷ []) goal u v
    (Includes-push (known.hypotheses ++ rule ∷ []) known.hypotheses (holds a from to) (Contains-append_left known.hypotheses (rule ∷ [])))
    derivable))

pub Derivable-follows : (known : Known) (goal : FormulaView) (u v : Term) → FollowsFromClauses known goal u v → Derivable known goal u v
Derivable-follows known (atom name terms) u v h =
    Derivable-using known (atom name terms) h.from h.to (atom name terms) u v h.true_on
    (init h.from h.to (Contains-push known.hypotheses (holds (atom name terms) h.from h.to)) h.begins h.ends)
Derivable-follows known (compare c) u v h = cons_r h
Derivable-follows known (state s) u v h = inter_r h
Derivable-follows known (both a b) u v h = and_r (Derivable-follows known a u v h.0) (Derivable-follows known b u v h.1)
Derivable-follows known (either a b) u v h = ⊎_elim (λ left. or_r1 (Derivable-follows known a u v left)) (λ right. or_r2 (Derivable-follows known b u v right)) h
Derivable-follows known (implies a b) u v h = absurd h
Derivable-follows known truth u v h = true_r
Derivable-follows known falsity u v h = absurd h
Derivable-follows known (forall_ s a) u v h = absurd h
Derivable-follows known (exists_ s a) u v h = absurd h
Derivable-follows known (says k a) u v h = says_r (Derivable-follows (speak k u v known) a u v h)
Derivable-follows known (on a from to) u v h = at_r (Derivable-follows known a from to h)

-- a formula is derivable from clauses exactly if it follows from them
pub Derivable-from_clauses : (known : Known) (goal : FormulaView) (u v : Term) → AssumesClauses known → IsSimple goal → Derivable known goal u v ↔ FollowsFromClauses known goal u v
Derivable-from_clauses known goal u v clauses simple = (
  λ derivable. Follows-from_clauses derivable known
      (record {
        constraints = record { each = λ c among. Entails-constrained known.constraints c among };
        facts = λ s among. among;
        hypotheses = sourced_itself known;
        view = refl;
        sorts = refl;
      })
      clauses simple,
  Derivable-follows known goal u v,
)
