-- What is not derivable, by models in which it is not true.
use Rattle.std.proofs.Common.{inr, ℕ, pos, List, [], ◌∷◌, codes, Bool, true, false, ◌||◌, refl, sym, subst, ⊎_elim, arith}
use Rattle.std.specs.Prelude.{IsTrue}
use Rattle.std.specs.Str.{bytes_eq}
use Rattle.std.proofs.lemmas.Option.{slice_get_within}
use Rattle.std.proofs.lemmas.Bool.{false≢true}
use Rattle.bl_syntax.specs.declared.terms.Sort.{Sort}
use Rattle.bl_syntax.specs.declared.terms.Sort.TheVariants as sorts
use Rattle.bl_syntax.specs.declared.terms.TimePoint.TheVariants.{NegInf, PosInf}
use Rattle.bl_syntax.specs.declared.terms.Term.{Term}
use Rattle.bl_syntax.specs.declared.terms.Term.TheVariants.{Prin, File, Perm, Time, Text, Ctime, Param, Bound}
use Rattle.bl_syntax.specs.Formula.{FormulaView, either, implies, truth, falsity, forall_, exists_, says}
use Rattle.bl_rules.specs.Sequent.{holds}
use Rattle.bl_rules.specs.Model.{Model, Values, IsTrueIn, IsTrueHypothesis, IsTrueKnown, IsHypothesisBelow, AreParametersDeclared}
use Rattle.bl_rules.specs.Examples.{admin_name, loc_name, hr, employee, always, GivesAlways, rain, snow}
use Rattle.bl_rules.proofs.Membership.{Contains-nothing}
use Rattle.bl_rules.proofs.ExampleLemmas.{Contains-one}
use Rattle.bl_rules.proofs.ModelLemmas.{Derivable-true_in_models}

-- a model by which atoms are true, at all times in all worlds, and by who is heeded in which, at all times
abbrev model_of : (List ℕ → List Term → Bool) → Model
model_of is_true = record {
  moment = pos 0;
  is_true = λ world name terms u v. is_true name terms;
  is_fact = λ s. true;
  heeds = λ world k u v. true;
  true_within = λ world name terms u v x y h begins ends. h;
  heeds_stronger = λ world k other u v b e strong begins ends h. refl;
}

-- what is known of one formula is declared, and true where this is
always_declared : (a : FormulaView) → IsHypothesisBelow 0 (holds a (Time NegInf) (Time PosInf)) → AreParametersDeclared (always a)
always_declared a below = record {
  constraints = λ c among. absurd (Contains-nothing c among);
  facts = λ s among. absurd (Contains-nothing s among);
  hypotheses = λ h among. subst (IsHypothesisBelow 0) (Contains-one (holds a (Time NegInf) (Time PosInf)) h among) below;
  who = tt;
  from = tt;
  to = tt;
}

parameter : Values
parameter n = Bound 0

always_true : (m : Model) (a : FormulaView) → IsTrueIn m parameter [] 0 a NegInf PosInf → IsTrue (m.heeds 0 (Prin admin_name) NegInf PosInf) → IsTrueKnown m parameter 0 (always a)
always_true m a is_true heeds = record {
  sorts = λ n s sorted. absurd (omega (arith, slice_get_within {A = Sort} [] n s sorted));
  constraints = λ c among. absurd (Contains-nothing c among);
  facts = λ s among. absurd (Contains-nothing s among);
  hypotheses = λ h among. subst (IsTrueHypothesis m parameter 0) (Contains-one (holds a (Time NegInf) (Time PosInf)) h among) is_true;
  view = heeds;
}

-- what one formula gives is true in each model in which the formula is
gives_true : (m : Model) (a b : FormulaView) → IsHypothesisBelow 0 (holds a (Time NegInf) (Time PosInf)) → IsHypothesisBelow 0 (holds b (Time NegInf) (Time PosInf))
    → IsTrue (m.heeds 0 (Prin admin_name) NegInf PosInf) → GivesAlways a b → IsTrueIn m parameter [] 0 a NegInf PosInf → IsTrueIn m parameter [] 0 b NegInf PosInf
gives_true m a b a_below b_below heeds gives is_true =
    Derivable-true_in_models m parameter 0 (always a) b (Time NegInf) (Time PosInf) (always_declared a a_below)
    (record { formula = b_below.0; from = tt; to = tt }) gives (always_true m a is_true heeds)

-- it snows
abbrev snows : Model
snows = model_of (λ name terms. bytes_eq name (codes "snow"))

pub truth_gives_no_falsity : GivesAlways truth falsity → ⊥
truth_gives_no_falsity gives = gives_true snows truth falsity (tt, tt, tt) (tt, tt, tt) refl gives tt

pub either_gives_not_the_first : GivesAlways (either rain snow) rain → ⊥
either_gives_not_the_first gives = false≢true (gives_true snows (either rain snow) rain ((tt, tt), tt, tt) (tt, tt, tt) refl gives (inr refl))

pub implication_gives_no_conclusion : GivesAlways (implies rain rain) rain → ⊥
implication_gives_no_conclusion gives = false≢true (gives_true snows (implies rain rain) rain ((tt, tt), tt, tt) (tt, tt, tt) refl gives (λ x y begins ends h. h))

-- a name of two letters
abbrev is_short : List ℕ → Bool
is_short [] = false
is_short (a ∷ []) = false
is_short (a ∷ b ∷ []) = true
is_short (a ∷ b ∷ c ∷ letters) = false

-- whose first argument is a principal with a name of two letters
abbrev of_short : List Term → Bool
of_short [] = false
of_short (Prin name ∷ terms) = is_short name
of_short (File number ∷ terms) = false
of_short (Perm permission ∷ terms) = false
of_short (Time point ∷ terms) = false
of_short (Text constant ∷ terms) = false
of_short (Ctime ∷ terms) = false
of_short (Param n ∷ terms) = false
of_short (Bound n ∷ terms) = false

-- `hr` is an employee, and `admin` is not
abbrev employs_hr : Model
employs_hr = model_of (λ name terms. of_short terms)

pub some_gives_not_this : GivesAlways (exists_ sorts.Principal (employee (Bound 0))) (employee (Prin admin_name)) → ⊥
some_gives_not_this gives = false≢true (
    gives_true employs_hr (exists_ sorts.Principal (employee (Bound 0))) (employee (Prin admin_name)) ((tt, tt), tt, tt) ((tt, tt), tt, tt) refl gives
    (Prin hr, record { constant = tt; sort = refl }, refl))

pub one_gives_not_all : GivesAlways (employee (Prin hr)) (forall_ sorts.Principal (employee (Bound 0))) → ⊥
one_gives_not_all gives = false≢true (
    gives_true employs_hr (employee (Prin hr)) (forall_ sorts.Principal (employee (Bound 0))) ((tt, tt), tt, tt) ((tt, tt), tt, tt) refl gives
    refl (Prin admin_name) (record { constant = tt; sort = refl }))

-- a principal that is heeded in the only world in which `admin` is
abbrev speaks : Term → Bool
speaks (Prin name) = bytes_eq name admin_name || bytes_eq name loc_name
speaks (File number) = false
speaks (Perm permission) = false
speaks (Time point) = false
speaks (Text constant) = false
speaks Ctime = false
speaks (Param n) = false
speaks (Bound n) = false

-- `hr` is heeded nowhere, and nothing is true
abbrev nobody_heeds_hr : Model
nobody_heeds_hr = record {
  moment = pos 0;
  is_true = λ world name terms u v. false;
  is_fact = λ s. true;
  heeds = λ world k u v. speaks k;
  true_within = λ world name terms u v x y h begins ends. h;
  heeds_stronger = λ world k other u v b e strong begins ends h.
      ⊎_elim (λ same. subst (λ (t : Term). IsTrue (speaks t)) (sym same) h) (λ is_loc. subst (λ (t : Term). IsTrue (speaks t)) (sym is_loc) refl) strong;
}

pub word_gives_no_truth : GivesAlways (says (Prin hr) rain) rain → ⊥
word_gives_no_truth gives =
    false≢true (gives_true nobody_heeds_hr (says (Prin hr) rain) rain ((tt, tt), tt, tt) (tt, tt, tt) refl gives (λ other heeds. heeds))
