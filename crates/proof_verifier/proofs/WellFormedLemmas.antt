-- From a well formed sequent, each rule's premises are checked on well formed ones.
use Rattle.std.proofs.Common.{◌≡◌, ℕ, zero, suc, List, [], ◌∷◌, ◌++◌, length, refl, subst, ⊎_elim}
use Rattle.std.specs.Prelude.{Contains, Option, Some, None, IsSome}
use Rattle.std.specs.List.{slice_get, AllByRecursion}
use Rattle.std.proofs.lemmas.Bool.{false≢true}
use Rattle.std.proofs.lemmas.Option.{same_Some, none-some}
use Rattle.std.proofs.lemmas.List.Elements.{Contains-push_cases}
use Rattle.bl_syntax.specs.declared.terms.Sort.{Sort}
use Rattle.bl_syntax.specs.declared.terms.Sort.TheVariants as sorts
use Rattle.bl_syntax.specs.declared.terms.Term.{Term}
use Rattle.bl_syntax.specs.declared.terms.Term.TheVariants.{Prin, File, Perm, Time, Text, Ctime, Param, Bound}
use Rattle.bl_syntax.specs.declared.terms.StatePred.{StatePred}
use Rattle.bl_syntax.specs.declared.terms.StatePred.TheVariants.{Owner, HasXattr, InDir}
use Rattle.bl_syntax.specs.declared.terms.Constraint.{Constraint}
use Rattle.bl_syntax.specs.declared.grant.Goal.{Goal}
use Rattle.bl_syntax.specs.Formula.{FormulaView, atom, compare, state, both, either, implies, truth, falsity, forall_, exists_, says, on}
use Rattle.bl_syntax.specs.Terms.{sort_of}
use Rattle.bl_syntax.specs.WellSorted.{HasSort, IsInScope, HaveSorts, IsSortedState, IsWellSorted, sorts_of_may}
use Rattle.bl_syntax.specs.Statement.{StatementView, IsStatement}
use Rattle.bl_syntax.specs.Substitution.{instance_at}
use Rattle.bl_syntax.proofs.InstanceLemmas.{IsWellSorted-put_in, times_in_range-put_in}
use Rattle.bl_rules.specs.Sequent.{Hypothesis, holds, claims}
use Rattle.bl_rules.specs.Allowed.{claim_of}
use Rattle.bl_rules.proofs.Membership.{Contains-nothing, Contains-map_cases}
use Rattle.bl_rules.proofs.SoundGrantLemmas.{All-item}
use Rattle.proof_verifier.specs.Sequent.{Sequent, aim_at, learn, bound, observe, declare, new_start, new_end, suppose, speak, unless_truth}
use Rattle.proof_verifier.specs.Verdict.{root}
use Rattle.proof_verifier.specs.WellFormed.{IsTermOf, IsClosed, IsInterval, IsWellFormedHypothesis, IsWellFormedSequent}

-- ---- more parameters

sort_kept : (parameters more : List Sort) (n : ℕ) (s : Sort) → slice_get parameters n ≡ Some s → slice_get (parameters ++ more) n ≡ Some s
sort_kept [] more n s h = absurd (none-some s h)
sort_kept (r ∷ parameters) more zero s h = h
sort_kept (r ∷ parameters) more (suc n) s h = sort_kept parameters more n s h

HasSort-more : (parameters more binders : List Sort) (s : Sort) (t : Term) → HasSort parameters binders s t → HasSort (parameters ++ more) binders s t
HasSort-more parameters more binders s (Prin name) h = h
HasSort-more parameters more binders s (File number) h = h
HasSort-more parameters more binders s (Perm permission) h = h
HasSort-more parameters more binders s (Time point) h = h
HasSort-more parameters more binders s (Text constant) h = h
HasSort-more parameters more binders s Ctime h = h
HasSort-more parameters more binders s (Param n) h = sort_kept parameters more n s h
HasSort-more parameters more binders s (Bound n) h = h

some_sort : (found : Option Sort) → IsSome found → (r : Sort) × (found ≡ Some r)
some_sort None h = absurd (false≢true h)
some_sort (Some r) h = (r, refl)

is_some_of : (found : Option Sort) (r : Sort) → found ≡ Some r → IsSome found
is_some_of found r e = rw e refl

AreInScope-more : (parameters more binders : List Sort) (terms : List Term) → AllByRecursion (IsInScope parameters binders) terms → AllByRecursion (IsInScope (parameters ++ more) binders) terms
AreInScope-more parameters more binders [] h = tt
AreInScope-more parameters more binders (t ∷ terms) h =
    let found = some_sort (sort_of parameters binders t) h.0 in (
      is_some_of (sort_of (parameters ++ more) binders t) found.0 (HasSort-more parameters more binders found.0 t found.1),
      AreInScope-more parameters more binders terms h.1,
    )

HaveSorts-more : (parameters more binders wanted : List Sort) (terms : List Term) → HaveSorts parameters binders wanted terms → HaveSorts (parameters ++ more) binders wanted terms
HaveSorts-more parameters more binders [] [] h = tt
HaveSorts-more parameters more binders [] (t ∷ terms) h = h
HaveSorts-more parameters more binders (r ∷ wanted) [] h = h
HaveSorts-more parameters more binders (r ∷ wanted) (t ∷ terms) h = (HasSort-more parameters more binders r t h.0, HaveSorts-more parameters more binders wanted terms h.1)

IsSortedState-more : (parameters more binders : List Sort) (s : StatePred) → IsSortedState parameters binders s → IsSortedState (parameters ++ more) binders s
IsSortedState-more parameters more binders (Owner file owner) h = (HasSort-more parameters more binders sorts.File file h.0, HasSort-more parameters more binders sorts.Principal owner h.1)
IsSortedState-more parameters more binders (HasXattr file name value) h =
    (HasSort-more parameters more binders sorts.File file h.0, (HasSort-more parameters more binders sorts.Text name h.1.0, HasSort-more parameters more binders sorts.Text value h.1.1))
IsSortedState-more parameters more binders (InDir file directory) h = (HasSort-more parameters more binders sorts.File file h.0, HasSort-more parameters more binders sorts.File directory h.1)

-- what is well sorted stays so where more parameters are declared
IsWellSorted-more : (parameters more binders : List Sort) (f : FormulaView) → IsWellSorted parameters binders f → IsWellSorted (parameters ++ more) binders f
IsWellSorted-more parameters more binders (atom name terms) h = record {
  in_scope = AreInScope-more parameters more binders terms h.in_scope;
  of_may = λ e. HaveSorts-more parameters more binders sorts_of_may terms (h.of_may e);
}
IsWellSorted-more parameters more binders (compare c) h = (HasSort-more parameters more binders sorts.Time c.low h.0, HasSort-more parameters more binders sorts.Time c.high h.1)
IsWellSorted-more parameters more binders (state s) h = IsSortedState-more parameters more binders s h
IsWellSorted-more parameters more binders (both a b) h = (IsWellSorted-more parameters more binders a h.0, IsWellSorted-more parameters more binders b h.1)
IsWellSorted-more parameters more binders (either a b) h = (IsWellSorted-more parameters more binders a h.0, IsWellSorted-more parameters more binders b h.1)
IsWellSorted-more parameters more binders (implies a b) h = (IsWellSorted-more parameters more binders a h.0, IsWellSorted-more parameters more binders b h.1)
IsWellSorted-more parameters more binders truth h = tt
IsWellSorted-more parameters more binders falsity h = tt
IsWellSorted-more parameters more binders (forall_ s a) h = IsWellSorted-more parameters more (s ∷ binders) a h
IsWellSorted-more parameters more binders (exists_ s a) h = IsWellSorted-more parameters more (s ∷ binders) a h
IsWellSorted-more parameters more binders (says k a) h = (HasSort-more parameters more binders sorts.Principal k h.0, IsWellSorted-more parameters more binders a h.1)
IsWellSorted-more parameters more binders (on a u v) h =
    (IsWellSorted-more parameters more binders a h.0, (HasSort-more parameters more binders sorts.Time u h.1.0, HasSort-more parameters more binders sorts.Time v h.1.1))

IsTermOf-more : {parameters : List Sort} {sort : Sort} {t : Term} → (more : List Sort) → IsTermOf parameters sort t → IsTermOf (parameters ++ more) sort t
IsTermOf-more {parameters} {sort} {t} more h = record { sorted = HasSort-more parameters more [] sort t h.sorted; in_range = h.in_range }

IsClosed-more : {parameters : List Sort} {f : FormulaView} → (more : List Sort) → IsClosed parameters f → IsClosed (parameters ++ more) f
IsClosed-more {parameters} {f} more h = record { sorted = IsWellSorted-more parameters more [] f h.sorted; in_range = h.in_range }

IsInterval-more : {parameters : List Sort} {u v : Term} → (more : List Sort) → IsInterval parameters u v → IsInterval (parameters ++ more) u v
IsInterval-more more h = record { from_time = IsTermOf-more more h.from_time; to_time = IsTermOf-more more h.to_time }

IsWellFormedHypothesis-more : (parameters more : List Sort) (h : Hypothesis) → IsWellFormedHypothesis parameters h → IsWellFormedHypothesis (parameters ++ more) h
IsWellFormedHypothesis-more parameters more (holds a u v) h = (IsClosed-more more h.0, IsInterval-more more h.1)
IsWellFormedHypothesis-more parameters more (claims k a u v) h = (IsTermOf-more more h.0, (IsClosed-more more h.1.0, IsInterval-more more h.1.1))

last_sort : (parameters : List Sort) (s : Sort) → slice_get (parameters ++ s ∷ []) (length parameters) ≡ Some s
last_sort [] s = refl
last_sort (r ∷ parameters) s = last_sort parameters s

-- ---- parts of formulas

pub as_form : {parameters : List Sort} {f g : FormulaView} → f ≡ g → IsClosed parameters f → IsClosed parameters g
as_form {parameters} e h = subst (λ (form : FormulaView). IsClosed parameters form) e h

pub parts_of_both : {parameters : List Sort} {a b : FormulaView} → IsClosed parameters (both a b) → IsClosed parameters a × IsClosed parameters b
parts_of_both h = (record { sorted = h.sorted.0; in_range = h.in_range.0 }, record { sorted = h.sorted.1; in_range = h.in_range.1 })

pub parts_of_either : {parameters : List Sort} {a b : FormulaView} → IsClosed parameters (either a b) → IsClosed parameters a × IsClosed parameters b
parts_of_either h = (record { sorted = h.sorted.0; in_range = h.in_range.0 }, record { sorted = h.sorted.1; in_range = h.in_range.1 })

pub parts_of_implies : {parameters : List Sort} {a b : FormulaView} → IsClosed parameters (implies a b) → IsClosed parameters a × IsClosed parameters b
parts_of_implies h = (record { sorted = h.sorted.0; in_range = h.in_range.0 }, record { sorted = h.sorted.1; in_range = h.in_range.1 })

pub parts_of_says : {parameters : List Sort} {k : Term} {a : FormulaView} → IsClosed parameters (says k a) → IsTermOf parameters sorts.Principal k × IsClosed parameters a
parts_of_says h = (record { sorted = h.sorted.0; in_range = h.in_range.0 }, record { sorted = h.sorted.1; in_range = h.in_range.1 })

pub parts_of_on : {parameters : List Sort} {a : FormulaView} {u v : Term} → IsClosed parameters (on a u v) → IsClosed parameters a × IsInterval parameters u v
parts_of_on h = (
  record { sorted = h.sorted.0; in_range = h.in_range.0 },
  record { from_time = record { sorted = h.sorted.1.0; in_range = h.in_range.1.0 }; to_time = record { sorted = h.sorted.1.1; in_range = h.in_range.1.1 } },
)

pub parts_of_compare : {parameters : List Sort} {c : Constraint} → IsClosed parameters (compare c) → IsInterval parameters c.low c.high
parts_of_compare h = record { from_time = record { sorted = h.sorted.0; in_range = h.in_range.0 }; to_time = record { sorted = h.sorted.1; in_range = h.in_range.1 } }

-- an instance at a term of the sort
pub instance_of_forall : {parameters : List Sort} {s : Sort} {a : FormulaView} {t : Term} → IsTermOf parameters s t → IsClosed parameters (forall_ s a) → IsClosed parameters (instance_at t a)
instance_of_forall {parameters} {s} {a} {t} term h = record {
  sorted = IsWellSorted-put_in parameters [] s t term.sorted a h.sorted;
  in_range = times_in_range-put_in 0 t term.in_range a h.in_range;
}

pub instance_of_exists : {parameters : List Sort} {s : Sort} {a : FormulaView} {t : Term} → IsTermOf parameters s t → IsClosed parameters (exists_ s a) → IsClosed parameters (instance_at t a)
instance_of_exists {parameters} {s} {a} {t} term h = record {
  sorted = IsWellSorted-put_in parameters [] s t term.sorted a h.sorted;
  in_range = times_in_range-put_in 0 t term.in_range a h.in_range;
}

new_parameter_of : (parameters : List Sort) (s : Sort) → IsTermOf (parameters ++ s ∷ []) s (Param (length parameters))
new_parameter_of parameters s = record { sorted = last_sort parameters s; in_range = tt }

pub new_instance_of_forall : {parameters : List Sort} {s : Sort} {a : FormulaView} → IsClosed parameters (forall_ s a) → IsClosed (parameters ++ s ∷ []) (instance_at (Param (length parameters)) a)
new_instance_of_forall {parameters} {s} h = instance_of_forall (new_parameter_of parameters s) (IsClosed-more (s ∷ []) h)

pub new_instance_of_exists : {parameters : List Sort} {s : Sort} {a : FormulaView} → IsClosed parameters (exists_ s a) → IsClosed (parameters ++ s ∷ []) (instance_at (Param (length parameters)) a)
new_instance_of_exists {parameters} {s} h = instance_of_exists (new_parameter_of parameters s) (IsClosed-more (s ∷ []) h)

-- ---- sequents

claim_left : (left : Option Hypothesis) (h : Hypothesis) → unless_truth left ≡ Some h → left ≡ Some h
claim_left None h e = absurd (none-some h e)
claim_left (Some (holds a u v)) h e = absurd (none-some h e)
claim_left (Some (claims k a u v)) h e = e

module _ {s : Sequent} where
  pub IsWellFormed-aim : {goal : FormulaView} {u v : Term} → IsClosed s.sorts goal → IsInterval s.sorts u v → IsWellFormedSequent s → IsWellFormedSequent (aim_at goal u v s)
  IsWellFormed-aim goal interval w = record { constraints = w.constraints; facts = w.facts; hypotheses = w.hypotheses; viewer = w.viewer; view = w.view; goal = goal; interval = interval }

  pub IsWellFormed-learn : (h : Hypothesis) → IsWellFormedHypothesis s.sorts h → IsWellFormedSequent s → IsWellFormedSequent (learn h s)
  IsWellFormed-learn h new w = record {
    constraints = w.constraints;
    facts = w.facts;
    hypotheses = λ x among. ⊎_elim
        (λ (old : Contains s.hypotheses (Some x)). w.hypotheses x old)
        (λ same. subst (λ (y : Hypothesis). IsWellFormedHypothesis s.sorts y) (same_Some h x same) new)
        (Contains-push_cases s.hypotheses (Some h) (Some x) among);
    viewer = w.viewer;
    view = w.view;
    goal = w.goal;
    interval = w.interval;
  }

  pub IsWellFormed-bound : (u v : Term) → IsInterval s.sorts u v → IsWellFormedSequent s → IsWellFormedSequent (bound u v s)
  IsWellFormed-bound u v new w = record {
    constraints = λ c among. ⊎_elim
        (λ (old : Contains s.constraints c). w.constraints c old)
        (λ same. subst (λ (d : Constraint). IsInterval s.sorts d.low d.high) same new)
        (Contains-push_cases s.constraints (record { low = u; high = v }) c among);
    facts = w.facts;
    hypotheses = w.hypotheses;
    viewer = w.viewer;
    view = w.view;
    goal = w.goal;
    interval = w.interval;
  }

  pub IsWellFormed-observe : (fact : StatePred) → IsClosed s.sorts (state fact) → IsWellFormedSequent s → IsWellFormedSequent (observe fact s)
  IsWellFormed-observe fact new w = record {
    constraints = w.constraints;
    facts = λ f among. ⊎_elim
        (λ (old : Contains s.facts f). w.facts f old)
        (λ same. subst (λ (g : StatePred). IsClosed s.sorts (state g)) same new)
        (Contains-push_cases s.facts fact f among);
    hypotheses = w.hypotheses;
    viewer = w.viewer;
    view = w.view;
    goal = w.goal;
    interval = w.interval;
  }

  pub IsWellFormed-declare : (sort : Sort) → IsWellFormedSequent s → IsWellFormedSequent (declare sort s)
  IsWellFormed-declare sort w = record {
    constraints = λ c among. IsInterval-more (sort ∷ []) (w.constraints c among);
    facts = λ fact among. IsClosed-more (sort ∷ []) (w.facts fact among);
    hypotheses = λ h among. IsWellFormedHypothesis-more s.sorts (sort ∷ []) h (w.hypotheses h among);
    viewer = IsTermOf-more (sort ∷ []) w.viewer;
    view = IsInterval-more (sort ∷ []) w.view;
    goal = IsClosed-more (sort ∷ []) w.goal;
    interval = IsInterval-more (sort ∷ []) w.interval;
  }

  pub IsWellFormed-speak : (k : Term) → IsTermOf s.sorts sorts.Principal k → IsWellFormedSequent s → IsWellFormedSequent (speak k s)
  IsWellFormed-speak k who w = record {
    constraints = w.constraints;
    facts = w.facts;
    hypotheses = λ h among.
        let was = Contains-map_cases unless_truth s.hypotheses (Some h) among in
        w.hypotheses h (subst (λ (x : Option Hypothesis). Contains s.hypotheses x) (claim_left was.0 h was.2) was.1);
    viewer = who;
    view = w.interval;
    goal = w.goal;
    interval = w.interval;
  }

-- the two times that are declared next
new_interval : (s : Sequent) → IsInterval (declare sorts.Time (declare sorts.Time s)).sorts (new_start s) (new_end s)
new_interval s = record {
  from_time = IsTermOf-more (sorts.Time ∷ []) (new_parameter_of s.sorts sorts.Time);
  to_time = new_parameter_of (s.sorts ++ sorts.Time ∷ []) sorts.Time;
}

pub IsWellFormed-suppose : {s : Sequent} {a b : FormulaView} → IsClosed s.sorts a → IsClosed s.sorts b → IsWellFormedSequent s → IsWellFormedSequent (aim_at b (new_start s) (new_end s) (suppose a s))
IsWellFormed-suppose {s} {a} {b} assumed goal w =
    let declared = IsWellFormed-declare sorts.Time (IsWellFormed-declare sorts.Time w) in
    let within = IsInterval-more (sorts.Time ∷ []) (IsInterval-more (sorts.Time ∷ []) w.interval) in
    let here = new_interval s in
    IsWellFormed-aim (IsClosed-more (sorts.Time ∷ []) (IsClosed-more (sorts.Time ∷ []) goal)) here
    (IsWellFormed-learn (holds a (new_start s) (new_end s)) (IsClosed-more (sorts.Time ∷ []) (IsClosed-more (sorts.Time ∷ []) assumed), here)
    (IsWellFormed-bound (new_end s) s.to (record { from_time = here.to_time; to_time = within.to_time })
    (IsWellFormed-bound s.from (new_start s) (record { from_time = within.from_time; to_time = here.from_time }) declared)))

-- ---- the root

claim_well_formed : (s : StatementView) → IsStatement s → IsWellFormedHypothesis [] (claim_of s)
claim_well_formed s said = (
  record { sorted = refl; in_range = tt },
  (
    record { sorted = said.body_is_formula.well_sorted; in_range = said.times_in_range },
    record { from_time = record { sorted = refl; in_range = said.from_in_range }; to_time = record { sorted = refl; in_range = said.to_in_range } },
  ),
)

pub IsWellFormed-root : (statements : List StatementView) (goal : Goal) → AllByRecursion IsStatement statements → IsWellFormedSequent (root statements goal)
IsWellFormed-root statements goal are_statements = record {
  constraints = λ c among. absurd (Contains-nothing c among);
  facts = λ fact among. absurd (Contains-nothing fact among);
  hypotheses = λ h among.
      let was = Contains-map_cases (λ (s : StatementView). Some (claim_of s)) statements (Some h) among in
      subst (λ (x : Hypothesis). IsWellFormedHypothesis [] x) (same_Some (claim_of was.0) h was.2)
      (claim_well_formed was.0 (All-item IsStatement statements was.0 are_statements was.1));
  viewer = record { sorted = refl; in_range = tt };
  view = record { from_time = record { sorted = refl; in_range = tt }; to_time = record { sorted = refl; in_range = tt } };
  goal = record {
    sorted = (refl, record { in_scope = (refl, (refl, (refl, tt))); of_may = λ _. (refl, (refl, (refl, tt))) });
    in_range = (tt, (tt, (tt, (tt, tt))));
  };
  interval = record { from_time = record { sorted = refl; in_range = tt }; to_time = record { sorted = refl; in_range = tt } };
}
