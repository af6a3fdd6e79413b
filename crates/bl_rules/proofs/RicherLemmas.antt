-- More facts, more hypotheses, constraints that entail the old ones, a weaker view and shorter intervals keep what is derivable.
use Rattle.std.proofs.Common.{◌≡◌, List, [], ◌∷◌, ◌++◌, inr, ⊎_elim, subst, sym}
use Rattle.std.specs.Prelude.{Contains}
use Rattle.std.proofs.lemmas.List.Elements.{Contains-append_left, Contains-push, Contains-push_cases}
use Rattle.bl_syntax.specs.declared.terms.TimePoint.{TimePoint}
use Rattle.bl_syntax.specs.declared.terms.Sort.{Sort}
use Rattle.bl_syntax.specs.declared.terms.Sort.TheVariants as sort
use Rattle.bl_syntax.specs.declared.terms.Term.TheVariants.{Time}
use Rattle.bl_syntax.specs.TimeOrder.{IsUpTo}
use Rattle.bl_syntax.specs.declared.terms.Term.{Term}
use Rattle.bl_syntax.specs.declared.terms.StatePred.{StatePred}
use Rattle.bl_syntax.specs.declared.terms.Constraint.{Constraint}
use Rattle.bl_syntax.specs.Formula.{FormulaView}
use Rattle.bl_syntax.specs.Terms.{IsAtLeastAsStrong}
use Rattle.bl_syntax.specs.Substitution.{instance_at}
use Rattle.bl_syntax.specs.Entailment.{Entails, EntailsAll}
use Rattle.bl_syntax.proofs.EntailmentLemmas.{Entails-itself, Entails-transitive, Entails-entailed, Entails-more, Entails-constrained, Entails-in_order}
use Rattle.bl_rules.specs.Sequent.{Hypothesis, holds, claims, View, Known, learn, bound, observe, declare, speak, new_parameter, new_start, new_end}
use Rattle.bl_rules.specs.Derivable.{IsNotAfter, Derivable, init, cons_r, inter_r, and_r, or_r1, or_r2, true_r, imp_r, forall_r, exists_r, says_r, at_r, cons_l, inter_l, and_l, or_l, false_l, imp_l, forall_l, exists_l, says_l, claim, at_l}
use Rattle.bl_rules.specs.Richer.{given, Includes}
use Rattle.bl_rules.proofs.Membership.{Includes-push, Includes-claims_among}

-- the first knows all that the second does, but for the sorts, in a view that is no stronger and no longer
pub record Supports (richer known : Known) : Type 0 where
  pub constraints : EntailsAll richer.constraints known.constraints
  pub facts : Includes richer.facts known.facts
  pub hypotheses : Includes richer.hypotheses known.hypotheses
  pub counts : (k : Term) → IsAtLeastAsStrong k known.view.who → IsAtLeastAsStrong k richer.view.who
  pub begins : IsNotAfter richer known.view.from richer.view.from
  pub ends : IsNotAfter richer richer.view.to known.view.to

entailed : (richer known : Known) (u v : Term) → Supports richer known → IsNotAfter known u v → IsNotAfter richer u v
entailed richer known u v supports = Entails-entailed known.constraints richer.constraints u v supports.constraints

Supports-learn : (richer known : Known) (h : Hypothesis) → Supports richer known → Supports (learn h richer) (learn h known)
Supports-learn richer known h supports = record {
  constraints = supports.constraints;
  facts = supports.facts;
  hypotheses = Includes-push richer.hypotheses known.hypotheses h supports.hypotheses;
  counts = supports.counts;
  begins = supports.begins;
  ends = supports.ends;
}

Supports-observe : (richer known : Known) (s : StatePred) → Supports richer known → Supports (observe s richer) (observe s known)
Supports-observe richer known s supports = record {
  constraints = supports.constraints;
  facts = Includes-push richer.facts known.facts s supports.facts;
  hypotheses = supports.hypotheses;
  counts = supports.counts;
  begins = supports.begins;
  ends = supports.ends;
}

-- one more constraint keeps what is entailed
pub bounded : (known : Known) (low high u v : Term) → IsNotAfter known u v → IsNotAfter (bound low high known) u v
bounded known low high u v = Entails-more known.constraints (bound low high known).constraints u v (λ c. Contains-append_left known.constraints (record { low = low; high = high } ∷ []) c)

-- and it is entailed
pub bound_entailed : (known : Known) (low high : Term) → IsNotAfter (bound low high known) low high
bound_entailed known low high =
    let c : Constraint = record { low = low; high = high } in
    Entails-constrained (known.constraints ++ c ∷ []) c (Contains-push known.constraints c)

-- a constraint on the richer side that is no weaker
Supports-bound : (richer known : Known) (low high low' high' : Term) → Supports richer known → IsNotAfter richer low' low → IsNotAfter richer high high'
    → Supports (bound low high richer) (bound low' high' known)
Supports-bound richer known low high low' high' supports below above =
    let more = bounded richer low high in
    let c : Constraint = record { low = low'; high = high' } in
    let implied : Entails (bound low high richer).constraints low' high' =
    Entails-transitive _ low' low high' (more low' low below) (Entails-transitive _ low high high' (bound_entailed richer low high) (more high high' above)) in
    record {
      constraints = record {
        each = λ d among. ⊎_elim
            (λ (before : Contains known.constraints d). more d.low d.high (supports.constraints.each d before))
            (λ (same : c ≡ d). subst (λ (e : Constraint). Entails (bound low high richer).constraints e.low e.high) same implied)
            (Contains-push_cases known.constraints c d among);
      };
      facts = supports.facts;
      hypotheses = supports.hypotheses;
      counts = supports.counts;
      begins = more known.view.from richer.view.from supports.begins;
      ends = more richer.view.to known.view.to supports.ends;
    }

Supports-same_bound : (richer known : Known) (low high : Term) → Supports richer known → Supports (bound low high richer) (bound low high known)
Supports-same_bound richer known low high supports =
    Supports-bound richer known low high low high supports (Entails-itself richer.constraints low) (Entails-itself richer.constraints high)

Supports-speak : (richer known : Known) (k u v x y : Term) → Supports richer known → IsNotAfter richer u x → IsNotAfter richer y v → Supports (speak k x y richer) (speak k u v known)
Supports-speak richer known k u v x y supports begins ends = record {
  constraints = supports.constraints;
  facts = supports.facts;
  hypotheses = Includes-claims_among richer.hypotheses known.hypotheses supports.hypotheses;
  counts = λ j strong. strong;
  begins = begins;
  ends = ends;
}

-- one more parameter is no matter
Supports-declare : (richer known : Known) (p : Sort) → Supports richer known → Supports richer (declare p known)
Supports-declare richer known p supports = record {
  constraints = supports.constraints;
  facts = supports.facts;
  hypotheses = supports.hypotheses;
  counts = supports.counts;
  begins = supports.begins;
  ends = supports.ends;
}

Supports-itself : (known : Known) → Supports known known
Supports-itself known = record {
  constraints = record { each = λ c among. Entails-constrained known.constraints c among };
  facts = λ p among. among;
  hypotheses = λ h among. among;
  counts = λ k strong. strong;
  begins = Entails-itself known.constraints known.view.from;
  ends = Entails-itself known.constraints known.view.to;
}

-- with these sorts
abbrev pub with_sorts_of : Known → Known → Known
with_sorts_of known richer = record richer { sorts = known.sorts }

-- one master lemma: what supports what is known derives what that does, also on a shorter interval
pub Derivable-supported : {known : Known} {goal : FormulaView} {u v : Term} → Derivable known goal u v
    → (richer : Known) → Supports richer known → (x y : Term) → IsNotAfter richer u x → IsNotAfter richer y v
    → Derivable (with_sorts_of known richer) goal x y
Derivable-supported {known = known} (init {u = u} {v = v} from to among low high) richer s x y begins ends =
    init from to (s.hypotheses _ among)
    (Entails-transitive richer.constraints from u x (entailed richer known from u s low) begins)
    (Entails-transitive richer.constraints y v to ends (entailed richer known v to s high))
Derivable-supported {known = known} (cons_r {c = c} bounds) richer s x y begins ends = cons_r (entailed richer known c.low c.high s bounds)
Derivable-supported (inter_r among) richer s x y begins ends = inter_r (s.facts _ among)
Derivable-supported (and_r left right) richer s x y begins ends = and_r (Derivable-supported left richer s x y begins ends) (Derivable-supported right richer s x y begins ends)
Derivable-supported (or_r1 left) richer s x y begins ends = or_r1 (Derivable-supported left richer s x y begins ends)
Derivable-supported (or_r2 right) richer s x y begins ends = or_r2 (Derivable-supported right richer s x y begins ends)
Derivable-supported true_r richer s x y begins ends = true_r
Derivable-supported {known = known} (imp_r {a = a} {u = u} {v = v} premise) richer s x y begins ends =
    let start = new_start known in
    let end = new_end known in
    let declared = declare sort.Time (declare sort.Time known) in
    let supported = Supports-declare richer (declare sort.Time known) sort.Time (Supports-declare richer known sort.Time s) in
    let started = bound x start richer in
    let ended = bound end y started in
    let itself = Entails-itself ended.constraints in
    imp_r (Derivable-supported premise (learn (holds a start end) ended)
    (Supports-learn ended (bound end v (bound u start declared)) (holds a start end)
    (Supports-bound started (bound u start declared) end y end v
    (Supports-bound richer declared x start u start supported begins (Entails-itself richer.constraints start))
    (Entails-itself started.constraints end) (bounded richer x start y v ends)))
    start end (itself start) (itself end))
Derivable-supported {known = known} (forall_r {s = p} premise) richer s x y begins ends =
    forall_r (Derivable-supported premise richer (Supports-declare richer known p s) x y begins ends)
Derivable-supported (exists_r t sorted premise) richer s x y begins ends = exists_r t sorted (Derivable-supported premise richer s x y begins ends)
Derivable-supported {known = known} (says_r {k = k} {u = u} {v = v} premise) richer s x y begins ends =
    says_r (Derivable-supported premise (speak k x y richer) (Supports-speak richer known k u v x y s begins ends) x y begins ends)
Derivable-supported (at_r {from = from} {to = to} premise) richer s x y begins ends =
    at_r (Derivable-supported premise richer s from to (Entails-itself richer.constraints from) (Entails-itself richer.constraints to))
Derivable-supported {known = known} {u = u} {v = v} (cons_l c from to among premise) richer s x y begins ends =
    cons_l c from to (s.hypotheses _ among)
    (Derivable-supported premise (bound c.low c.high richer) (Supports-same_bound richer known c.low c.high s) x y
    (bounded richer c.low c.high u x begins) (bounded richer c.low c.high y v ends))
Derivable-supported {known = known} (inter_l p from to among premise) richer s x y begins ends =
    inter_l p from to (s.hypotheses _ among) (Derivable-supported premise (observe p richer) (Supports-observe richer known p s) x y begins ends)
Derivable-supported {known = known} (and_l a b from to among premise) richer s x y begins ends =
    let first = holds a from to in
    let second = holds b from to in
    and_l a b from to (s.hypotheses _ among)
    (Derivable-supported premise (learn second (learn first richer)) (Supports-learn (learn first richer) (learn first known) second (Supports-learn richer known first s)) x y begins ends)
Derivable-supported {known = known} (or_l a b from to among left right) richer s x y begins ends =
    or_l a b from to (s.hypotheses _ among)
    (Derivable-supported left (learn (holds a from to) richer) (Supports-learn richer known (holds a from to) s) x y begins ends)
    (Derivable-supported right (learn (holds b from to) richer) (Supports-learn richer known (holds b from to) s) x y begins ends)
Derivable-supported (false_l from to among) richer s x y begins ends = false_l from to (s.hypotheses _ among)
Derivable-supported {known = known} (imp_l a b from to t1 t2 among t1_time t2_time low high left right) richer s x y begins ends =
    imp_l a b from to t1 t2 (s.hypotheses _ among) t1_time t2_time (entailed richer known from t1 s low) (entailed richer known t2 to s high)
    (Derivable-supported left richer s t1 t2 (Entails-itself richer.constraints t1) (Entails-itself richer.constraints t2))
    (Derivable-supported right (learn (holds b t1 t2) richer) (Supports-learn richer known (holds b t1 t2) s) x y begins ends)
Derivable-supported {known = known} (forall_l p a from to t among sorted premise) richer s x y begins ends =
    let instance = holds (instance_at t a) from to in
    forall_l p a from to t (s.hypotheses _ among) sorted
    (Derivable-supported premise (learn instance richer) (Supports-learn richer known instance s) x y begins ends)
Derivable-supported {known = known} (exists_l p a from to among premise) richer s x y begins ends =
    let instance = holds (instance_at (new_parameter known) a) from to in
    exists_l p a from to (s.hypotheses _ among)
    (Derivable-supported premise (learn instance richer) (Supports-learn richer (declare p known) instance (Supports-declare richer known p s)) x y begins ends)
Derivable-supported {known = known} (says_l k a from to among premise) richer s x y begins ends =
    let claimed = claims k a from to in
    says_l k a from to (s.hypotheses _ among) (Derivable-supported premise (learn claimed richer) (Supports-learn richer known claimed s) x y begins ends)
Derivable-supported {known = known} (claim k a from to among strong low high premise) richer s x y begins ends =
    claim k a from to (s.hypotheses _ among) (s.counts k strong)
    (Entails-transitive richer.constraints from known.view.from richer.view.from (entailed richer known from known.view.from s low) s.begins)
    (Entails-transitive richer.constraints richer.view.to known.view.to to s.ends (entailed richer known known.view.to to s high))
    (Derivable-supported premise (learn (holds a from to) richer) (Supports-learn richer known (holds a from to) s) x y begins ends)
Derivable-supported {known = known} (at_l a t1 t2 from to among premise) richer s x y begins ends =
    let located = holds a t1 t2 in
    at_l a t1 t2 from to (s.hypotheses _ among) (Derivable-supported premise (learn located richer) (Supports-learn richer known located s) x y begins ends)

pub Derivable-richer : {known : Known} {goal : FormulaView} {u v : Term} → Derivable known goal u v
    → (psi : List Constraint) (facts : List StatePred) (hs : List Hypothesis)
    → EntailsAll psi known.constraints → Includes facts known.facts → Includes hs known.hypotheses
    → Derivable (given psi facts hs known) goal u v
Derivable-richer {known = known} {u = u} {v = v} derivable psi facts hs constraints_kept facts_kept hypotheses_kept =
    Derivable-supported derivable (given psi facts hs known)
    (record {
      constraints = constraints_kept;
      facts = facts_kept;
      hypotheses = hypotheses_kept;
      counts = λ k strong. strong;
      begins = Entails-itself psi known.view.from;
      ends = Entails-itself psi known.view.to;
    })
    u v (Entails-itself psi u) (Entails-itself psi v)

-- on a shorter interval
pub Derivable-within : (known : Known) (goal : FormulaView) (u v x y : Term) → IsNotAfter known u x → IsNotAfter known y v → Derivable known goal u v → Derivable known goal x y
Derivable-within known goal u v x y begins ends derivable = Derivable-supported derivable known (Supports-itself known) x y begins ends

IsAtLeastAsStrong-transitive : (k other third : Term) → IsAtLeastAsStrong k other → IsAtLeastAsStrong other third → IsAtLeastAsStrong k third
IsAtLeastAsStrong-transitive k other third = ⊎_elim
    (λ same strong. subst (λ (t : Term). IsAtLeastAsStrong t third) (sym same) strong)
    (λ is_loc strong. inr is_loc)

-- in the view of a weaker principal, over a shorter interval
pub Derivable-in_view : (known : Known) (view : View) (goal : FormulaView) (u v : Term)
    → IsAtLeastAsStrong known.view.who view.who → IsNotAfter known known.view.from view.from → IsNotAfter known view.to known.view.to
    → Derivable known goal u v → Derivable (record known { view = view }) goal u v
Derivable-in_view known view goal u v weaker begins ends derivable =
    Derivable-supported derivable (record known { view = view })
    (record {
      constraints = record { each = λ c among. Entails-constrained known.constraints c among };
      facts = λ p among. among;
      hypotheses = λ h among. among;
      counts = λ k strong. IsAtLeastAsStrong-transitive k known.view.who view.who strong weaker;
      begins = begins;
      ends = ends;
    })
    u v (Entails-itself known.constraints u) (Entails-itself known.constraints v)

pub Derivable-more : (known : Known) (constraints : List Constraint) (facts : List StatePred) (hypotheses : List Hypothesis) (goal : FormulaView) (u v : Term)
    → Includes constraints known.constraints → Includes facts known.facts → Includes hypotheses known.hypotheses
    → Derivable known goal u v → Derivable (given constraints facts hypotheses known) goal u v
Derivable-more known constraints facts hypotheses goal u v more_constraints more_facts more_hypotheses derivable =
    Derivable-richer derivable constraints facts hypotheses
    (record { each = λ c among. Entails-constrained constraints c (more_constraints c among) }) more_facts more_hypotheses

pub Derivable-entailed : (known : Known) (constraints : List Constraint) (goal : FormulaView) (u v : Term)
    → EntailsAll constraints known.constraints
    → Derivable known goal u v → Derivable (given constraints known.facts known.hypotheses known) goal u v
Derivable-entailed known constraints goal u v all derivable =
    Derivable-richer derivable constraints known.facts known.hypotheses all (λ s among. among) (λ h among. among)

pub Derivable-true : (known : Known) (low high : TimePoint) (goal : FormulaView) (u v : Term)
    → IsUpTo low high
    → Derivable (bound (Time low) (Time high) known) goal u v → Derivable known goal u v
Derivable-true known low high goal u v up_to derivable =
    Derivable-richer derivable known.constraints known.facts known.hypotheses
    (record {
      each = λ c among. ⊎_elim
          (λ (before : Contains known.constraints c). Entails-constrained known.constraints c before)
          (λ same. subst (λ (d : Constraint). Entails known.constraints d.low d.high) same (Entails-in_order known.constraints low high up_to))
          (Contains-push_cases known.constraints (record { low = Time low; high = Time high }) c among);
    })
    (λ s among. among) (λ h among. among)
