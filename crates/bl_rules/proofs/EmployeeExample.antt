-- A policy that hands a question on: `admin` lets those have a permission of whom `hr` says that they are employees.
use Rattle.std.proofs.Common.{◌≡◌, ◌⊎◌, ◌↔◌, ℤ, ℕ, List, [], ◌∷◌, length, codes, inl, inr, refl, ap, sym, subst, ⊎_elim, arith}
use Rattle.std.specs.Prelude.{Contains}
use Rattle.std.proofs.lemmas.List.Elements.{Contains-push_cases}
use Rattle.bl_syntax.specs.declared.terms.TimePoint.{TimePoint}
use Rattle.bl_syntax.specs.declared.terms.TimePoint.TheVariants.{NegInf, At, PosInf}
use Rattle.bl_syntax.specs.declared.terms.Sort.TheVariants as sorts
use Rattle.bl_syntax.specs.declared.terms.NodeId.{NodeId}
use Rattle.bl_syntax.specs.declared.terms.Perm.{Perm as Permission}
use Rattle.bl_syntax.specs.declared.terms.Term.{Term}
use Rattle.bl_syntax.specs.declared.terms.Term.TheVariants.{Prin, File, Perm, Time, Ctime}
use Rattle.bl_syntax.specs.declared.terms.StatePred.{StatePred}
use Rattle.bl_syntax.specs.Formula.{FormulaView, atom, compare, state, both, either, implies, truth, falsity, forall_, exists_, says, on}
use Rattle.bl_syntax.specs.TimeOrder.{IsUpTo}
use Rattle.bl_syntax.specs.Substitution.{instance_at}
use Rattle.bl_syntax.specs.WellSorted.{may}
use Rattle.bl_syntax.specs.Entailment.{Entails, EntailsAll, from_the_start, to_the_end}
use Rattle.bl_syntax.proofs.EntailmentLemmas.{Entails-link, Entails-in_order, Entails-itself, Entails-transitive, Entails-entailed}
use Rattle.bl_rules.specs.Sequent.{Hypothesis, holds, claims, Known, learn, speak}
use Rattle.bl_rules.specs.Derivable.{Assumes, Derivable, init, cons_r, inter_r, and_r, or_r1, or_r2, true_r, imp_r, forall_r, exists_r, says_r, at_r, cons_l, inter_l, and_l, or_l, false_l, imp_l, forall_l, exists_l, says_l, claim, at_l}
use Rattle.bl_rules.specs.Allowed.{admin, claims_of, Allows}
use Rattle.bl_rules.specs.Examples.{hr, employee, policy_for_employees, statements_on_employees}
use Rattle.bl_rules.proofs.Membership.{Contains-nothing, Contains-cons_cases, claims_among-Contains}
use Rattle.bl_rules.proofs.ExampleLemmas.{Contains-one, name_of}
use Rattle.bl_rules.proofs.YieldLemmas.{IsUpTo-entailed}

employee_is_not_may : codes "employee" ≡ may → ⊥
employee_is_not_may same = let longer : length (codes "employee") ≡ length may = ap (λ (name : List ℕ). length name) same in omega (arith, longer)

abbrev first_term : List Term → Term
first_term [] = Ctime
first_term (t ∷ terms) = t

abbrev first_name : List Term → List ℕ
first_name terms = name_of (first_term terms)

module _ (file : NodeId) (permission : Permission) (person : List ℕ) (from to : TimePoint) where
  abbrev policy : FormulaView
  policy = policy_for_employees file permission

  abbrev granted : Term → FormulaView
  granted t = atom may (t ∷ File file ∷ Perm permission ∷ [])

  abbrev statements_known : List Hypothesis
  statements_known = claims_of (statements_on_employees file permission person from to)

  pub within : (moment : ℤ) (facts : List StatePred) → IsUpTo from (At moment) → IsUpTo (At moment) to
      → Allows (statements_on_employees file permission person from to) facts moment person file permission
  within moment facts begun not_ended =
      let now : Term = Time (At moment) in
      let begins = Entails-in_order [] from (At moment) begun in
      let ends = Entails-in_order [] (At moment) to not_ended in
      let always_begun = Entails-link [] (from_the_start now) in
      let never_ended = Entails-link [] (to_the_end now) in
      let who = Prin person in
      says_r (claim admin policy (Time NegInf) (Time PosInf) (0, omega arith, refl) (inl refl) always_begun never_ended
      (forall_l sorts.Principal _ (Time NegInf) (Time PosInf) who (2, omega arith, refl) refl
      (imp_l (says (Prin hr) (employee who)) (granted who) (Time NegInf) (Time PosInf) now now (3, omega arith, refl) refl refl always_begun never_ended
      (says_r (claim (Prin hr) (employee who) (Time from) (Time to) (1, omega arith, refl) (inl refl) begins ends
      (init (Time from) (Time to) (2, omega arith, refl) begins ends)))
      (init now now (4, omega arith, refl) (Entails-itself [] now) (Entails-itself [] now)))))

  -- all that can become true, in whatever view
  data CanBeTrue : FormulaView → Term → Term → Type 0 where
    policy_true : CanBeTrue policy (Time NegInf) (Time PosInf)
    rule_true : (t : Term) → CanBeTrue (implies (says (Prin hr) (employee t)) (granted t)) (Time NegInf) (Time PosInf)
    granted_true : (x y : Term) → Entails [] (Time from) x → Entails [] y (Time to) → CanBeTrue (granted (Prin person)) x y
    employee_true : CanBeTrue (employee (Prin person)) (Time from) (Time to)

  -- what each form says of a truth of it
  abbrev Means : FormulaView → Term → Term → Type 0
  Means (atom name terms) x y =
      ((name ≡ may) × (terms ≡ Prin person ∷ File file ∷ Perm permission ∷ []) × Entails [] (Time from) x × Entails [] y (Time to))
      ⊎ ((name ≡ codes "employee") × (terms ≡ Prin person ∷ []) × Entails [] (Time from) x × Entails [] y (Time to))
  Means (compare c) x y = ⊥
  Means (state s) x y = ⊥
  Means (both a b) x y = ⊥
  Means (either a b) x y = ⊥
  Means (implies a b) x y = (t : Term) × (a ≡ says (Prin hr) (employee t)) × (b ≡ granted t)
  Means truth x y = ⊥
  Means falsity x y = ⊥
  Means (forall_ s a) x y = (t : Term) → CanBeTrue (instance_at t a) x y
  Means (exists_ s a) x y = ⊥
  Means (says k a) x y = ⊥
  Means (on a u v) x y = ⊥

  meant : (a : FormulaView) (x y : Term) → CanBeTrue a x y → Means a x y
  meant _ _ _ policy_true = λ t. rule_true t
  meant _ _ _ (rule_true t) = (t, refl, refl)
  meant _ _ _ (granted_true x y begins ends) = inl (refl, refl, begins, ends)
  meant _ _ _ employee_true = inr (refl, refl, Entails-itself [] (Time from), Entails-itself [] (Time to))

  -- what a derivation of the goal shows
  abbrev Shows : FormulaView → Term → Term → Type 0
  Shows (atom name terms) u v = (x : Term) × (y : Term) × CanBeTrue (atom name terms) x y × Entails [] x u × Entails [] v y
  Shows (compare c) u v = Unit {0}
  Shows (state s) u v = Unit {0}
  Shows (both a b) u v = Unit {0}
  Shows (either a b) u v = Unit {0}
  Shows (implies a b) u v = Unit {0}
  Shows truth u v = Unit {0}
  Shows falsity u v = Unit {0}
  Shows (forall_ s a) u v = Unit {0}
  Shows (exists_ s a) u v = Unit {0}
  Shows (says k a) u v = Shows a u v
  Shows (on a x y) u v = Unit {0}

  abbrev CanBe : Hypothesis → Type 0
  CanBe (holds a u v) = CanBeTrue a u v
  CanBe (claims k a u v) = CanBeTrue a u v

  record IsPossible (known : Known) : Type 0 where
    constraints : EntailsAll [] known.constraints
    hypotheses : (h : Hypothesis) → Assumes known h → CanBe h

  IsPossible-speak : (k u v : Term) (known : Known) → IsPossible known → IsPossible (speak k u v known)
  IsPossible-speak k u v known possible = record {
    constraints = possible.constraints;
    hypotheses = λ h among. possible.hypotheses h (claims_among-Contains known.hypotheses h among).0;
  }

  IsPossible-learn : (h : Hypothesis) (known : Known) → CanBe h → IsPossible known → IsPossible (learn h known)
  IsPossible-learn h known can_be possible = record {
    constraints = possible.constraints;
    hypotheses = λ g among. ⊎_elim (λ (before : Assumes known g). possible.hypotheses g before) (λ same. subst CanBe same can_be) (Contains-push_cases known.hypotheses h g among);
  }

  -- where `hr` says that somebody is an employee, it is the one, at times of the claim
  shown_employee : (t x y : Term) → Shows (employee t) x y → CanBeTrue (granted t) x y
  shown_employee t x y shows = ⊎_elim
      (λ (h : ((codes "employee" ≡ may) × (t ∷ [] ≡ Prin person ∷ File file ∷ Perm permission ∷ []) × Entails [] (Time from) shows.0 × Entails [] shows.1 (Time to))).
      absurd (employee_is_not_may h.0))
      (λ (h : ((codes "employee" ≡ codes "employee") × (t ∷ [] ≡ Prin person ∷ []) × Entails [] (Time from) shows.0 × Entails [] shows.1 (Time to))).
      subst (λ (s : Term). CanBeTrue (granted s) x y) (sym (ap first_term h.1))
      (granted_true x y (Entails-transitive [] (Time from) shows.0 x h.2 shows.3) (Entails-transitive [] y shows.1 (Time to) shows.4 h.3)))
      (meant (employee t) shows.0 shows.1 shows.2)

  shown : {known : Known} {goal : FormulaView} {u v : Term} → Derivable known goal u v → IsPossible known → Shows goal u v
  shown {known = known} (init {u = u} {v = v} first last among begins ends) possible =
      (first, last, possible.hypotheses _ among, Entails-entailed known.constraints [] first u possible.constraints begins, Entails-entailed known.constraints [] v last possible.constraints ends)
  shown (cons_r entailed) possible = tt
  shown (inter_r among) possible = tt
  shown (and_r left right) possible = tt
  shown (or_r1 left) possible = tt
  shown (or_r2 right) possible = tt
  shown true_r possible = tt
  shown (imp_r premise) possible = tt
  shown (forall_r premise) possible = tt
  shown (exists_r t sorted premise) possible = tt
  shown {known = known} (says_r {k = k} {u = u} {v = v} premise) possible = shown premise (IsPossible-speak k u v known possible)
  shown (at_r premise) possible = tt
  shown (cons_l c first last among premise) possible = absurd (meant (compare c) first last (possible.hypotheses _ among))
  shown (inter_l s first last among premise) possible = absurd (meant (state s) first last (possible.hypotheses _ among))
  shown (and_l a b first last among premise) possible = absurd (meant (both a b) first last (possible.hypotheses _ among))
  shown (or_l a b first last among left right) possible = absurd (meant (either a b) first last (possible.hypotheses _ among))
  shown (false_l first last among) possible = absurd (meant falsity first last (possible.hypotheses _ among))
  shown {known = known} (imp_l a b first last x y among x_time y_time begins ends left right) possible =
      let rule : Means (implies a b) first last = meant (implies a b) first last (possible.hypotheses (holds (implies a b) first last) among) in
      let shows : Shows (employee rule.0) x y = subst (λ (f : FormulaView). Shows f x y) rule.1 (shown left possible) in
      let gives : CanBeTrue b x y = subst (λ (f : FormulaView). CanBeTrue f x y) (sym rule.2) (shown_employee rule.0 x y shows) in
      shown right (IsPossible-learn (holds b x y) known gives possible)
  shown {known = known} (forall_l s a first last t among sorted premise) possible =
      shown premise (IsPossible-learn (holds (instance_at t a) first last) known (meant (forall_ s a) first last (possible.hypotheses _ among) t) possible)
  shown (exists_l s a first last among premise) possible = absurd (meant (exists_ s a) first last (possible.hypotheses _ among))
  shown (says_l k a first last among premise) possible = absurd (meant (says k a) first last (possible.hypotheses _ among))
  shown {known = known} (claim k a first last among strong begins ends premise) possible =
      shown premise (IsPossible-learn (holds a first last) known (possible.hypotheses _ among) possible)
  shown (at_l a x y first last among premise) possible = absurd (meant (on a x y) first last (possible.hypotheses _ among))

  statements_possible : (h : Hypothesis) → Contains statements_known h → CanBe h
  statements_possible h among = ⊎_elim
      (λ same. subst CanBe same policy_true)
      (λ later. subst CanBe (Contains-one (claims (Prin hr) (employee (Prin person)) (Time from) (Time to)) h later) employee_true)
      (Contains-cons_cases h (claims admin policy (Time NegInf) (Time PosInf)) (claims (Prin hr) (employee (Prin person)) (Time from) (Time to) ∷ []) among)

  pub only_within : (moment : ℤ) (facts : List StatePred) (who : List ℕ)
      → Allows (statements_on_employees file permission person from to) facts moment who file permission
      → (who ≡ person) × IsUpTo from (At moment) × IsUpTo (At moment) to
  only_within moment facts who allowed =
      let now : Term = Time (At moment) in
      let shows : Shows (granted (Prin who)) now now = shown allowed (record {
        constraints = record { each = λ c among. absurd (Contains-nothing c among) };
        hypotheses = statements_possible;
      }) in
      ⊎_elim
      (λ (h : ((may ≡ may) × (Prin who ∷ File file ∷ Perm permission ∷ [] ≡ Prin person ∷ File file ∷ Perm permission ∷ []) × Entails [] (Time from) shows.0 × Entails [] shows.1 (Time to))). (
        ap first_name h.1,
        IsUpTo-entailed from (At moment) (Entails-transitive [] (Time from) shows.0 now h.2 shows.3),
        IsUpTo-entailed (At moment) to (Entails-transitive [] now shows.1 (Time to) shows.4 h.3),
      ))
      (λ (h : ((may ≡ codes "employee") × (Prin who ∷ File file ∷ Perm permission ∷ [] ≡ Prin person ∷ []) × Entails [] (Time from) shows.0 × Entails [] shows.1 (Time to))).
      absurd (employee_is_not_may (sym h.0)))
      (meant (granted (Prin who)) shows.0 shows.1 shows.2)

pub Allows-employees : (file : NodeId) (permission : Permission) (person : List ℕ) (from to : TimePoint) (moment : ℤ) (facts : List StatePred) (who : List ℕ)
    → Allows (statements_on_employees file permission person from to) facts moment who file permission
    ↔ ((who ≡ person) × IsUpTo from (At moment) × IsUpTo (At moment) to)
Allows-employees file permission person from to moment facts who = (
  only_within file permission person from to moment facts who,
  λ h. subst (λ (name : List ℕ). Allows (statements_on_employees file permission person from to) facts moment name file permission) (sym h.0)
      (within file permission person from to moment facts h.1 h.2),
)
