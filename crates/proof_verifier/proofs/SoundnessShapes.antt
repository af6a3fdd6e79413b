-- What it tells that a step gives something: the forms that rules ask for, and the hypotheses that they cite.
use Rattle.std.proofs.Common.{◌≡◌, ◌∙◌, ap₂, ℕ, zero, suc, Bool, true, false, ◌&&◌, List, [], ◌∷◌, Result, Ok, Err, Option, Some, None, refl}
use Rattle.std.specs.Prelude.{Contains, if◌then◌else◌}
use Rattle.std.proofs.lemmas.Result.{IfOk-at_ok, IfOk-weaker}
use Rattle.std.specs.Result.{IfOk}
use Rattle.std.proofs.lemmas.Slice.Eq.{bytes_eq-Decides}
use Rattle.std.specs.Str.{bytes_eq}
use Rattle.bl_syntax.specs.declared.terms.Sort.{Sort}
use Rattle.bl_syntax.specs.declared.terms.Term.{Term}
use Rattle.bl_syntax.specs.Formula.{FormulaView, atom, compare, state, both, either, implies, truth, falsity, forall_, exists_, says, on}
use Rattle.bl_syntax.specs.Terms.{sort_of, IsAtLeastAsStrong}
use Rattle.bl_syntax.specs.WellSorted.{HasSort}
use Rattle.bl_rules.specs.Sequent.{Hypothesis, holds, claims}
use Rattle.bl_rules.proofs.Membership.{Contains-head, Contains-tail}
use Rattle.proof_verifier.specs.declared.fault.CheckFault.{CheckFault}
use Rattle.proof_verifier.specs.Sequent.{Sequent}
use Rattle.proof_verifier.specs.Shapes.{and_then, cited_hypothesis, as_truth, as_claim, truth_at, claim_at, as_atom, as_same_atom, as_constraint, as_state, as_both, as_either, as_implies, as_true, as_false, as_forall, as_exists, as_says, as_on}
use Rattle.proof_verifier.specs.Tests.{are_same, is_as_strong}
use Rattle.proof_verifier.specs.Conditions.{of_sort, term_condition, strength_condition}
use Rattle.bl_syntax.proofs.ConditionTestLemmas.{both_true}
use Rattle.proof_verifier.proofs.TestLemmas.{same_terms, of_its_sort, Decides-is_as_strong}

-- what the step gives, if it gives anything, has the property
pub record Gives {A : Type 0} (step : Result A CheckFault) (P : A → Type 0) : Type 0 where
  pub gives : (found : A) → step ≡ Ok found → P found

pub gives : {A : Type 0} (step : Result A CheckFault) (P : A → Type 0) → IfOk step P → Gives step P
gives step P if_ok = record { gives = λ found e. IfOk-at_ok P e if_ok }

pub no_gift : {A : Type 0} (fault : CheckFault) (P : A → Type 0) → Gives (Err fault) P
no_gift fault P = gives (Err fault) P tt

pub gives_here : {A : Type 0} (found : A) (P : A → Type 0) → P found → Gives (Ok found) P
gives_here found P p = gives (Ok found) P p

pub gives_more : {A : Type 0} {step : Result A CheckFault} {P Q : A → Type 0} → Gives step P → ((found : A) → P found → Q found) → Gives step Q
gives_more first later = record { gives = λ found e. later found (first.gives found e) }

-- a step, and then another
pub chain : {A B : Type 0} {step : Result A CheckFault} {later : A → Result B CheckFault} {P : A → Type 0} {Q : B → Type 0}
    → Gives step P → ((found : A) → P found → Gives (later found) Q) → Gives (and_then step later) Q
chain {step = Ok found} {later = later} first next = next found (first.gives found refl)
chain {step = Err fault} {later = later} {P = P} {Q = Q} first next = no_gift fault Q

pub either_way : {A : Type 0} (test : Bool) (step other : Result A CheckFault) (P : A → Type 0)
    → (test ≡ true → Gives step P) → (test ≡ false → Gives other P) → Gives (if test then step else other) P
either_way true step other P first second = first refl
either_way false step other P first second = second refl

-- a test that has to pass
pub tested : (test : Bool) (fault : CheckFault) (P : Type 0) → (test ≡ true → P) → Gives (if test then Ok tt else Err fault) (λ (_ : Unit {0}). P)
tested true fault P told = gives_here tt (λ (_ : Unit {0}). P) (told refl)
tested false fault P told = no_gift fault (λ (_ : Unit {0}). P)

is_atom : (node : ℕ) (f : FormulaView) → IfOk (as_atom node f) (λ x. f ≡ atom x.0 x.1)
is_atom node (atom name terms) = refl
is_atom node _ = tt

is_constraint : (node : ℕ) (f : FormulaView) → IfOk (as_constraint node f) (λ c. f ≡ compare c)
is_constraint node (compare c) = refl
is_constraint node _ = tt

is_state : (node : ℕ) (f : FormulaView) → IfOk (as_state node f) (λ s. f ≡ state s)
is_state node (state s) = refl
is_state node _ = tt

is_both : (node : ℕ) (f : FormulaView) → IfOk (as_both node f) (λ x. f ≡ both x.0 x.1)
is_both node (both a b) = refl
is_both node _ = tt

is_either : (node : ℕ) (f : FormulaView) → IfOk (as_either node f) (λ x. f ≡ either x.0 x.1)
is_either node (either a b) = refl
is_either node _ = tt

is_implies : (node : ℕ) (f : FormulaView) → IfOk (as_implies node f) (λ x. f ≡ implies x.0 x.1)
is_implies node (implies a b) = refl
is_implies node _ = tt

is_truth : (node : ℕ) (f : FormulaView) → IfOk (as_true node f) (λ _. f ≡ truth)
is_truth node truth = refl
is_truth node _ = tt

is_falsity : (node : ℕ) (f : FormulaView) → IfOk (as_false node f) (λ _. f ≡ falsity)
is_falsity node falsity = refl
is_falsity node _ = tt

is_forall : (node : ℕ) (f : FormulaView) → IfOk (as_forall node f) (λ x. f ≡ forall_ x.0 x.1)
is_forall node (forall_ s a) = refl
is_forall node _ = tt

is_exists : (node : ℕ) (f : FormulaView) → IfOk (as_exists node f) (λ x. f ≡ exists_ x.0 x.1)
is_exists node (exists_ s a) = refl
is_exists node _ = tt

is_says : (node : ℕ) (f : FormulaView) → IfOk (as_says node f) (λ x. f ≡ says x.0 x.1)
is_says node (says k a) = refl
is_says node _ = tt

is_on : (node : ℕ) (f : FormulaView) → IfOk (as_on node f) (λ x. f ≡ on x.0 x.1 x.2)
is_on node (on a u v) = refl
is_on node _ = tt

gives_atom : (node : ℕ) (f : FormulaView) → Gives (as_atom node f) (λ x. f ≡ atom x.0 x.1)
gives_atom node f = gives (as_atom node f) _ (is_atom node f)

pub gives_constraint : (node : ℕ) (f : FormulaView) → Gives (as_constraint node f) (λ c. f ≡ compare c)
gives_constraint node f = gives (as_constraint node f) _ (is_constraint node f)

pub gives_state : (node : ℕ) (f : FormulaView) → Gives (as_state node f) (λ s. f ≡ state s)
gives_state node f = gives (as_state node f) _ (is_state node f)

pub gives_both : (node : ℕ) (f : FormulaView) → Gives (as_both node f) (λ x. f ≡ both x.0 x.1)
gives_both node f = gives (as_both node f) _ (is_both node f)

pub gives_either : (node : ℕ) (f : FormulaView) → Gives (as_either node f) (λ x. f ≡ either x.0 x.1)
gives_either node f = gives (as_either node f) _ (is_either node f)

pub gives_implies : (node : ℕ) (f : FormulaView) → Gives (as_implies node f) (λ x. f ≡ implies x.0 x.1)
gives_implies node f = gives (as_implies node f) _ (is_implies node f)

pub gives_truth : (node : ℕ) (f : FormulaView) → Gives (as_true node f) (λ _. f ≡ truth)
gives_truth node f = gives (as_true node f) _ (is_truth node f)

pub gives_falsity : (node : ℕ) (f : FormulaView) → Gives (as_false node f) (λ _. f ≡ falsity)
gives_falsity node f = gives (as_false node f) _ (is_falsity node f)

pub gives_forall : (node : ℕ) (f : FormulaView) → Gives (as_forall node f) (λ x. f ≡ forall_ x.0 x.1)
gives_forall node f = gives (as_forall node f) _ (is_forall node f)

pub gives_exists : (node : ℕ) (f : FormulaView) → Gives (as_exists node f) (λ x. f ≡ exists_ x.0 x.1)
gives_exists node f = gives (as_exists node f) _ (is_exists node f)

pub gives_says : (node : ℕ) (f : FormulaView) → Gives (as_says node f) (λ x. f ≡ says x.0 x.1)
gives_says node f = gives (as_says node f) _ (is_says node f)

pub gives_on : (node : ℕ) (f : FormulaView) → Gives (as_on node f) (λ x. f ≡ on x.0 x.1 x.2)
gives_on node f = gives (as_on node f) _ (is_on node f)

-- the hypothesis with a number is one of the hypotheses
is_cited : (node : ℕ) (hypotheses : List (Option Hypothesis)) (h : ℕ) → IfOk (cited_hypothesis node hypotheses h) (λ x. Contains hypotheses (Some x))
is_cited node [] h = tt
is_cited node (None ∷ rest) zero = tt
is_cited node (Some x ∷ rest) zero = Contains-head (Some x) (Some x) rest refl
is_cited node (left ∷ rest) (suc h) =
    IfOk-weaker (cited_hypothesis node rest h) (λ x. Contains rest (Some x)) (λ x. Contains (left ∷ rest) (Some x)) (λ x later. Contains-tail (Some x) left rest later) (is_cited node rest h)

-- what is found is a truth of the sequent
abbrev pub IsTruth : Sequent → FormulaView × Term × Term → Type 0
IsTruth s x = Contains s.hypotheses (Some (holds x.0 x.1 x.2))

-- what is found is a claim of the sequent
abbrev pub IsClaim : Sequent → Term × FormulaView × Term × Term → Type 0
IsClaim s x = Contains s.hypotheses (Some (claims x.0 x.1 x.2 x.3))

as_a_truth : (node : ℕ) (x : Hypothesis) → IfOk (as_truth node x) (λ t. x ≡ holds t.0 t.1 t.2)
as_a_truth node (holds a u v) = refl
as_a_truth node (claims k a u v) = tt

as_a_claim : (node : ℕ) (x : Hypothesis) → IfOk (as_claim node x) (λ t. x ≡ claims t.0 t.1 t.2 t.3)
as_a_claim node (holds a u v) = tt
as_a_claim node (claims k a u v) = refl

pub gives_truth_at : (node : ℕ) (s : Sequent) (h : ℕ) → Gives (truth_at node s.hypotheses h) (IsTruth s)
gives_truth_at node s h =
    chain (gives (cited_hypothesis node s.hypotheses h) _ (is_cited node s.hypotheses h)) (λ x among.
    gives_more (gives (as_truth node x) _ (as_a_truth node x)) (λ t same. rw same at among))

pub gives_claim_at : (node : ℕ) (s : Sequent) (h : ℕ) → Gives (claim_at node s.hypotheses h) (IsClaim s)
gives_claim_at node s h =
    chain (gives (cited_hypothesis node s.hypotheses h) _ (is_cited node s.hypotheses h)) (λ x among.
    gives_more (gives (as_claim node x) _ (as_a_claim node x)) (λ t same. rw same at among))

pub gives_term : (node : ℕ) (sorts : List Sort) (sort : Sort) (t : Term) → Gives (term_condition node sorts sort t) (λ _. HasSort sorts [] sort t)
gives_term node sorts sort t = tested (of_sort sort (sort_of sorts [] t)) _ (HasSort sorts [] sort t) (of_its_sort sort (sort_of sorts [] t))

pub gives_strength : (node : ℕ) (k other : Term) → Gives (strength_condition node k other) (λ _. IsAtLeastAsStrong k other)
gives_strength node k other = tested (is_as_strong k other) _ (IsAtLeastAsStrong k other) (Decides-is_as_strong k other).0

-- both are the atom with this name and these arguments
pub record AreAtom (a b : FormulaView) : Type 0 where
  pub name : List ℕ
  pub terms : List Term
  pub first : a ≡ atom name terms
  pub second : b ≡ atom name terms

pub gives_same_atom : (node : ℕ) (a b : FormulaView) → Gives (as_same_atom node a b) (λ _. AreAtom a b)
gives_same_atom node a b =
    chain (gives_atom node a) λ x is.
    chain (gives_atom node b) λ y other_is.
    tested (bytes_eq x.0 y.0 && are_same x.1 y.1) _ (AreAtom a b) λ e.
    let parts = both_true (bytes_eq x.0 y.0) (are_same x.1 y.1) e in
    record { name = y.0; terms = y.1; first = is ∙ ap₂ atom ((bytes_eq-Decides x.0 y.0).0 parts.0) (same_terms x.1 y.1 parts.1); second = other_is }
