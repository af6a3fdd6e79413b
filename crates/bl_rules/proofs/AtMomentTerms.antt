-- A moment instead of the current time, and a term instead of a bound variable, in either order.
use Rattle.std.proofs.Common.{◌≡◌, ◌∙◌, ℕ, ℤ, suc, List, [], ◌∷◌, map, Bool, true, false, refl, ap, ap₂, inl, inr, ⊎_elim}
use Rattle.std.specs.Prelude.{◌==◌, if◌then◌else◌}
use Rattle.bl_syntax.specs.declared.terms.Sort.{Sort}
use Rattle.bl_syntax.specs.declared.terms.Term.{Term}
use Rattle.bl_syntax.specs.declared.terms.Term.TheVariants.{Prin, File, Perm, Time, Text, Ctime, Param, Bound}
use Rattle.bl_syntax.specs.declared.terms.StatePred.{StatePred}
use Rattle.bl_syntax.specs.declared.terms.StatePred.TheVariants.{Owner, HasXattr, InDir}
use Rattle.bl_syntax.specs.declared.terms.Constraint.{Constraint}
use Rattle.bl_syntax.specs.Formula.{FormulaView, atom, compare, state, both, either, implies, truth, falsity, forall_, exists_, says, on}
use Rattle.bl_syntax.specs.Terms.{sort_of, term_at, constraint_at, state_at, IsAtLeastAsStrong}
use Rattle.bl_syntax.specs.WellSorted.{HasSort}
use Rattle.bl_syntax.specs.Substitution.{put_in_term, put_in_constraint, put_in_state, put_in, instance_at, formula_at}

module _ (moment : ℤ) where
  pub sort_of-at : (parameters binders : List Sort) (t : Term) → sort_of parameters binders (term_at moment t) ≡ sort_of parameters binders t
  sort_of-at parameters binders (Prin name) = refl
  sort_of-at parameters binders (File number) = refl
  sort_of-at parameters binders (Perm permission) = refl
  sort_of-at parameters binders (Time point) = refl
  sort_of-at parameters binders (Text constant) = refl
  sort_of-at parameters binders Ctime = refl
  sort_of-at parameters binders (Param n) = refl
  sort_of-at parameters binders (Bound n) = refl

  pub HasSort-at : (parameters binders : List Sort) (s : Sort) (t : Term) → HasSort parameters binders s t → HasSort parameters binders s (term_at moment t)
  HasSort-at parameters binders s t sorted = sort_of-at parameters binders t ∙ sorted

  pub IsAtLeastAsStrong-at : (k other : Term) → IsAtLeastAsStrong k other → IsAtLeastAsStrong (term_at moment k) (term_at moment other)
  IsAtLeastAsStrong-at k other = ⊎_elim (λ same. inl (ap (term_at moment) same)) (λ is_loc. inr (ap (term_at moment) is_loc))

  chosen : (test : Bool) (n : ℕ) (t : Term) → term_at moment (if test then t else Bound n) ≡ (if test then term_at moment t else Bound n)
  chosen true n t = refl
  chosen false n t = refl

  put_in_term-at : (depth : ℕ) (t s : Term) → term_at moment (put_in_term depth t s) ≡ put_in_term depth (term_at moment t) (term_at moment s)
  put_in_term-at depth t (Prin name) = refl
  put_in_term-at depth t (File number) = refl
  put_in_term-at depth t (Perm permission) = refl
  put_in_term-at depth t (Time point) = refl
  put_in_term-at depth t (Text constant) = refl
  put_in_term-at depth t Ctime = refl
  put_in_term-at depth t (Param n) = refl
  put_in_term-at depth t (Bound n) = chosen (n == depth) n t

  put_in_terms-at : (depth : ℕ) (t : Term) (terms : List Term)
      → map (term_at moment) (map (put_in_term depth t) terms) ≡ map (put_in_term depth (term_at moment t)) (map (term_at moment) terms)
  put_in_terms-at depth t [] = refl
  put_in_terms-at depth t (s ∷ terms) = ap₂ ◌∷◌ (put_in_term-at depth t s) (put_in_terms-at depth t terms)

  put_in_constraint-at : (depth : ℕ) (t : Term) (c : Constraint)
      → constraint_at moment (put_in_constraint depth t c) ≡ put_in_constraint depth (term_at moment t) (constraint_at moment c)
  put_in_constraint-at depth t c = rw (put_in_term-at depth t c.low, put_in_term-at depth t c.high)

  put_in_state-at : (depth : ℕ) (t : Term) (s : StatePred) → state_at moment (put_in_state depth t s) ≡ put_in_state depth (term_at moment t) (state_at moment s)
  put_in_state-at depth t (Owner file owner) = ap₂ Owner (put_in_term-at depth t file) (put_in_term-at depth t owner)
  put_in_state-at depth t (HasXattr file name value) = rw (put_in_term-at depth t file, put_in_term-at depth t name, put_in_term-at depth t value)
  put_in_state-at depth t (InDir file directory) = ap₂ InDir (put_in_term-at depth t file) (put_in_term-at depth t directory)

  put_in-at : (depth : ℕ) (t : Term) (f : FormulaView) → formula_at moment (put_in depth t f) ≡ put_in depth (term_at moment t) (formula_at moment f)
  put_in-at depth t (atom name terms) = ap (atom name) (put_in_terms-at depth t terms)
  put_in-at depth t (compare c) = ap compare (put_in_constraint-at depth t c)
  put_in-at depth t (state s) = ap state (put_in_state-at depth t s)
  put_in-at depth t (both a b) = ap₂ both (put_in-at depth t a) (put_in-at depth t b)
  put_in-at depth t (either a b) = ap₂ either (put_in-at depth t a) (put_in-at depth t b)
  put_in-at depth t (implies a b) = ap₂ implies (put_in-at depth t a) (put_in-at depth t b)
  put_in-at depth t truth = refl
  put_in-at depth t falsity = refl
  put_in-at depth t (forall_ s a) = ap (forall_ s) (put_in-at (suc depth) t a)
  put_in-at depth t (exists_ s a) = ap (exists_ s) (put_in-at (suc depth) t a)
  put_in-at depth t (says k a) = ap₂ says (put_in_term-at depth t k) (put_in-at depth t a)
  put_in-at depth t (on a u v) = rw (put_in-at depth t a, put_in_term-at depth t u, put_in_term-at depth t v)

  -- the body of a binder at a term, at a moment
  pub instance_at-at : (t : Term) (f : FormulaView) → formula_at moment (instance_at t f) ≡ instance_at (term_at moment t) (formula_at moment f)
  instance_at-at t f = put_in-at 0 t f
