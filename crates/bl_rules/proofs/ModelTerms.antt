-- What terms and formulas stand for: with other values of parameters, and with a term instead of a bound variable.
use Rattle.std.proofs.Common.{◌≡◌, ◌∙◌, ◌⊎◌, ◌↔◌, ◌≤◌, ◌<◌, inl, inr, ℕ, zero, suc, List, [], ◌∷◌, length, map, Bool, true, false, Some, refl, ap, ap₂, sym, subst, ⊎_elim, arith}
use Rattle.std.proofs.lemmas.Bool.{eqb-true, eqb-false}
use Rattle.std.specs.Prelude.{IsTrue, ◌==◌, if◌then◌else◌}
use Rattle.std.specs.List.{AllByRecursion, slice_get}
use Rattle.std.proofs.lemmas.Option.{slice_get_within}
use Rattle.bl_syntax.specs.declared.terms.Sort.{Sort}
use Rattle.bl_syntax.specs.declared.terms.TimePoint.{TimePoint}
use Rattle.bl_syntax.specs.declared.terms.Term.{Term}
use Rattle.bl_syntax.specs.declared.terms.Term.TheVariants.{Prin, File, Perm, Time, Text, Ctime, Param, Bound}
use Rattle.bl_syntax.specs.declared.terms.StatePred.{StatePred}
use Rattle.bl_syntax.specs.declared.terms.StatePred.TheVariants.{Owner, HasXattr, InDir}
use Rattle.bl_syntax.specs.Formula.{FormulaView, atom, compare, state, both, either, implies, truth, falsity, forall_, exists_, says, on}
use Rattle.bl_syntax.specs.TimeOrder.{IsUpTo}
use Rattle.bl_syntax.specs.WellSorted.{HasSort, terms_of_state}
use Rattle.bl_syntax.specs.Statement.{AllTerms}
use Rattle.bl_syntax.specs.Substitution.{put_in_term, put_in_state, put_in, instance_at}
use Rattle.bl_rules.specs.Model.{Model, Values, bound_value, value, time_of, time_value, state_value, IsConstantOf, IsTrueIn, IsParameterBelow}

-- the same values below a number of parameters
pub record Agree (count : ℕ) (p q : Values) : Type 0 where
  pub each : (n : ℕ) → n < count → p n ≡ q n

pub Agree-back : (count : ℕ) (p q : Values) → Agree count p q → Agree count q p
Agree-back count p q agree = record { each = λ n below. sym (agree.each n below) }

module _ (m : Model) (count : ℕ) where
  pub value-agree : (p q : Values) (bounds : List Term) (t : Term) → Agree count p q → IsParameterBelow count t → value m p bounds t ≡ value m q bounds t
  value-agree p q bounds (Prin name) agree below = refl
  value-agree p q bounds (File number) agree below = refl
  value-agree p q bounds (Perm permission) agree below = refl
  value-agree p q bounds (Time point) agree below = refl
  value-agree p q bounds (Text constant) agree below = refl
  value-agree p q bounds Ctime agree below = refl
  value-agree p q bounds (Param n) agree below = agree.each n below
  value-agree p q bounds (Bound n) agree below = refl

  values-agree : (p q : Values) (bounds : List Term) (terms : List Term) → Agree count p q → AllByRecursion (IsParameterBelow count) terms
      → map (value m p bounds) terms ≡ map (value m q bounds) terms
  values-agree p q bounds [] agree below = refl
  values-agree p q bounds (t ∷ terms) agree below = ap₂ ◌∷◌ (value-agree p q bounds t agree below.0) (values-agree p q bounds terms agree below.1)

  pub state_value-agree : (p q : Values) (bounds : List Term) (s : StatePred) → Agree count p q → AllByRecursion (IsParameterBelow count) (terms_of_state s)
      → state_value m p bounds s ≡ state_value m q bounds s
  state_value-agree p q bounds (Owner file owner) agree below = ap₂ Owner (value-agree p q bounds file agree below.0) (value-agree p q bounds owner agree below.1.0)
  state_value-agree p q bounds (HasXattr file name text) agree below =
      rw (value-agree p q bounds file agree below.0, value-agree p q bounds name agree below.1.0, value-agree p q bounds text agree below.1.1.0)
  state_value-agree p q bounds (InDir file directory) agree below = ap₂ InDir (value-agree p q bounds file agree below.0) (value-agree p q bounds directory agree below.1.0)

  pub time_value-agree : (p q : Values) (bounds : List Term) (t : Term) → Agree count p q → IsParameterBelow count t → time_value m p bounds t ≡ time_value m q bounds t
  time_value-agree p q bounds t agree below = ap time_of (value-agree p q bounds t agree below)

  -- a formula is as true with values that agree on its parameters
  pub IsTrueIn-agree : (a : FormulaView) (p q : Values) (bounds : List Term) (world : ℕ) (u v : TimePoint) → Agree count p q → AllTerms (IsParameterBelow count) a
      → IsTrueIn m p bounds world a u v → IsTrueIn m q bounds world a u v
  IsTrueIn-agree (atom name terms) p q bounds world u v agree below h =
      subst (λ (values : List Term). IsTrue (m.is_true world name values u v)) (values-agree p q bounds terms agree below) h
  IsTrueIn-agree (compare c) p q bounds world u v agree below h =
      subst (λ (x : TimePoint). IsUpTo x (time_value m q bounds c.high)) (time_value-agree p q bounds c.low agree below.0)
      (subst (λ (y : TimePoint). IsUpTo (time_value m p bounds c.low) y) (time_value-agree p q bounds c.high agree below.1) h)
  IsTrueIn-agree (state s) p q bounds world u v agree below h =
      subst (λ (fact : StatePred). IsTrue (m.is_fact fact)) (state_value-agree p q bounds s agree below) h
  IsTrueIn-agree (both a b) p q bounds world u v agree below h =
      (IsTrueIn-agree a p q bounds world u v agree below.0 h.0, IsTrueIn-agree b p q bounds world u v agree below.1 h.1)
  IsTrueIn-agree (either a b) p q bounds world u v agree below h = ⊎_elim
      (λ left. inl (IsTrueIn-agree a p q bounds world u v agree below.0 left))
      (λ right. inr (IsTrueIn-agree b p q bounds world u v agree below.1 right)) h
  IsTrueIn-agree (implies a b) p q bounds world u v agree below h =
      λ x y begins ends given. IsTrueIn-agree b p q bounds world x y agree below.1
      (h x y begins ends (IsTrueIn-agree a q p bounds world x y (Agree-back count p q agree) below.0 given))
  IsTrueIn-agree truth p q bounds world u v agree below h = h
  IsTrueIn-agree falsity p q bounds world u v agree below h = h
  IsTrueIn-agree (forall_ s a) p q bounds world u v agree below h = λ t is. IsTrueIn-agree a p q (t ∷ bounds) world u v agree below (h t is)
  IsTrueIn-agree (exists_ s a) p q bounds world u v agree below h = (h.0, h.1, IsTrueIn-agree a p q (h.0 ∷ bounds) world u v agree below h.2)
  IsTrueIn-agree (says k a) p q bounds world u v agree below h =
      λ other heeds. IsTrueIn-agree a p q bounds other u v agree below.1
      (h other (subst (λ (who : Term). IsTrue (m.heeds other who u v)) (sym (value-agree p q bounds k agree below.0)) heeds))
  IsTrueIn-agree (on a from to) p q bounds world u v agree below h =
      subst (λ (x : TimePoint). IsTrueIn m q bounds world a x (time_value m q bounds to)) (time_value-agree p q bounds from agree below.1.0)
      (subst (λ (y : TimePoint). IsTrueIn m q bounds world a (time_value m p bounds from) y) (time_value-agree p q bounds to agree below.1.1)
      (IsTrueIn-agree a p q bounds world (time_value m p bounds from) (time_value m p bounds to) agree below.0 h))

-- one of two, where each is the same as another
one_of : {A B C D : Type 0} → A ↔ C → B ↔ D → (A ⊎ B) ↔ (C ⊎ D)
one_of left right = (⊎_elim (λ x. inl (left.0 x)) (λ y. inr (right.0 y)), ⊎_elim (λ x. inl (left.1 x)) (λ y. inr (right.1 y)))

-- the term at this place among what bound variables stand for
abbrev pub put : ℕ → Term → List Term → List Term
put zero t [] = t ∷ []
put zero t (x ∷ bounds) = t ∷ bounds
put (suc n) t [] = Bound 0 ∷ put n t []
put (suc n) t (x ∷ bounds) = x ∷ put n t bounds

bound_value-put : (n : ℕ) (t : Term) (bounds : List Term) → bound_value (put n t bounds) n ≡ t
bound_value-put zero t [] = refl
bound_value-put zero t (x ∷ bounds) = refl
bound_value-put (suc n) t [] = bound_value-put n t []
bound_value-put (suc n) t (x ∷ bounds) = bound_value-put n t bounds

bound_value-other : (n k : ℕ) (t : Term) (bounds : List Term) → (k ≡ n → ⊥) → bound_value (put n t bounds) k ≡ bound_value bounds k
bound_value-other zero zero t bounds other = absurd (other refl)
bound_value-other zero (suc k) t [] other = refl
bound_value-other zero (suc k) t (x ∷ bounds) other = refl
bound_value-other (suc n) zero t [] other = refl
bound_value-other (suc n) zero t (x ∷ bounds) other = refl
bound_value-other (suc n) (suc k) t [] other = bound_value-other n k t [] (λ same. other (ap suc same))
bound_value-other (suc n) (suc k) t (x ∷ bounds) other = bound_value-other n k t bounds (λ same. other (ap suc same))

module _ (m : Model) (p : Values) (t c : Term) (stands : (bounds : List Term) → value m p bounds t ≡ c) where
  chosen : (n k : ℕ) (bounds : List Term) (test : Bool) → (k == n) ≡ test
      → value m p bounds (if test then t else Bound k) ≡ bound_value (put n c bounds) k
  chosen n k bounds true is =
      stands bounds ∙ sym (subst (λ (i : ℕ). bound_value (put n c bounds) i ≡ c) (sym (eqb-true k n is)) (bound_value-put n c bounds))
  chosen n k bounds false is = sym (bound_value-other n k c bounds (eqb-false k n is))

  value-put_in : (n : ℕ) (bounds : List Term) (s : Term) → value m p bounds (put_in_term n t s) ≡ value m p (put n c bounds) s
  value-put_in n bounds (Prin name) = refl
  value-put_in n bounds (File number) = refl
  value-put_in n bounds (Perm permission) = refl
  value-put_in n bounds (Time point) = refl
  value-put_in n bounds (Text constant) = refl
  value-put_in n bounds Ctime = refl
  value-put_in n bounds (Param k) = refl
  value-put_in n bounds (Bound k) = chosen n k bounds (k == n) refl

  values-put_in : (n : ℕ) (bounds : List Term) (terms : List Term) → map (value m p bounds) (map (put_in_term n t) terms) ≡ map (value m p (put n c bounds)) terms
  values-put_in n bounds [] = refl
  values-put_in n bounds (s ∷ terms) = ap₂ ◌∷◌ (value-put_in n bounds s) (values-put_in n bounds terms)

  state_value-put_in : (n : ℕ) (bounds : List Term) (s : StatePred) → state_value m p bounds (put_in_state n t s) ≡ state_value m p (put n c bounds) s
  state_value-put_in n bounds (Owner file owner) = ap₂ Owner (value-put_in n bounds file) (value-put_in n bounds owner)
  state_value-put_in n bounds (HasXattr file name text) = rw (value-put_in n bounds file, value-put_in n bounds name, value-put_in n bounds text)
  state_value-put_in n bounds (InDir file directory) = ap₂ InDir (value-put_in n bounds file) (value-put_in n bounds directory)

  time_value-put_in : (n : ℕ) (bounds : List Term) (s : Term) → time_value m p bounds (put_in_term n t s) ≡ time_value m p (put n c bounds) s
  time_value-put_in n bounds s = ap time_of (value-put_in n bounds s)

  -- a formula with t put in is as true as the formula where the bound variable stands for what t does
  IsTrueIn-put_in : (a : FormulaView) (n : ℕ) (bounds : List Term) (world : ℕ) (u v : TimePoint)
      → IsTrueIn m p bounds world (put_in n t a) u v ↔ IsTrueIn m p (put n c bounds) world a u v
  IsTrueIn-put_in (atom name terms) n bounds world u v =
      let same = values-put_in n bounds terms in (
        subst (λ (values : List Term). IsTrue (m.is_true world name values u v)) same,
        subst (λ (values : List Term). IsTrue (m.is_true world name values u v)) (sym same),
      )
  IsTrueIn-put_in (compare r) n bounds world u v =
      let low = time_value-put_in n bounds r.low in
      let high = time_value-put_in n bounds r.high in (
        λ h. subst (λ (x : TimePoint). IsUpTo x (time_value m p (put n c bounds) r.high)) low (subst (λ (y : TimePoint). IsUpTo (time_value m p bounds (put_in_term n t r.low)) y) high h),
        λ h. subst (λ (x : TimePoint). IsUpTo x (time_value m p bounds (put_in_term n t r.high))) (sym low)
            (subst (λ (y : TimePoint). IsUpTo (time_value m p (put n c bounds) r.low) y) (sym high) h),
      )
  IsTrueIn-put_in (state s) n bounds world u v =
      let same = state_value-put_in n bounds s in
      (subst (λ (fact : StatePred). IsTrue (m.is_fact fact)) same, subst (λ (fact : StatePred). IsTrue (m.is_fact fact)) (sym same))
  IsTrueIn-put_in (both a b) n bounds world u v =
      let left = IsTrueIn-put_in a n bounds world u v in
      let right = IsTrueIn-put_in b n bounds world u v in
      (λ h. (left.0 h.0, right.0 h.1), λ h. (left.1 h.0, right.1 h.1))
  IsTrueIn-put_in (either a b) n bounds world u v = one_of (IsTrueIn-put_in a n bounds world u v) (IsTrueIn-put_in b n bounds world u v)
  IsTrueIn-put_in (implies a b) n bounds world u v = (
    λ h x y begins ends given. (IsTrueIn-put_in b n bounds world x y).0 (h x y begins ends ((IsTrueIn-put_in a n bounds world x y).1 given)),
    λ h x y begins ends given. (IsTrueIn-put_in b n bounds world x y).1 (h x y begins ends ((IsTrueIn-put_in a n bounds world x y).0 given)),
  )
  IsTrueIn-put_in truth n bounds world u v = (λ h. h, λ h. h)
  IsTrueIn-put_in falsity n bounds world u v = (λ h. h, λ h. h)
  IsTrueIn-put_in (forall_ s a) n bounds world u v = (
    λ h x is. (IsTrueIn-put_in a (suc n) (x ∷ bounds) world u v).0 (h x is),
    λ h x is. (IsTrueIn-put_in a (suc n) (x ∷ bounds) world u v).1 (h x is),
  )
  IsTrueIn-put_in (exists_ s a) n bounds world u v = (
    λ h. (h.0, h.1, (IsTrueIn-put_in a (suc n) (h.0 ∷ bounds) world u v).0 h.2),
    λ h. (h.0, h.1, (IsTrueIn-put_in a (suc n) (h.0 ∷ bounds) world u v).1 h.2),
  )
  IsTrueIn-put_in (says k a) n bounds world u v =
      let same = value-put_in n bounds k in (
        λ h other heeds. (IsTrueIn-put_in a n bounds other u v).0 (h other (subst (λ (who : Term). IsTrue (m.heeds other who u v)) (sym same) heeds)),
        λ h other heeds. (IsTrueIn-put_in a n bounds other u v).1 (h other (subst (λ (who : Term). IsTrue (m.heeds other who u v)) same heeds)),
      )
  IsTrueIn-put_in (on a from to) n bounds world u v =
      let low = time_value-put_in n bounds from in
      let high = time_value-put_in n bounds to in
      let inner = IsTrueIn-put_in a n bounds world (time_value m p bounds (put_in_term n t from)) (time_value m p bounds (put_in_term n t to)) in (
        λ h. subst (λ (x : TimePoint). IsTrueIn m p (put n c bounds) world a x (time_value m p (put n c bounds) to)) low
            (subst (λ (y : TimePoint). IsTrueIn m p (put n c bounds) world a (time_value m p bounds (put_in_term n t from)) y) high (inner.0 h)),
        λ h. inner.1 (subst (λ (x : TimePoint). IsTrueIn m p (put n c bounds) world a x (time_value m p bounds (put_in_term n t to))) (sym low)
            (subst (λ (y : TimePoint). IsTrueIn m p (put n c bounds) world a (time_value m p (put n c bounds) from) y) (sym high) h)),
      )

  -- an instance is as true as the body of the binder where its variable stands for what t does
  pub IsTrueIn-instance : (a : FormulaView) (world : ℕ) (u v : TimePoint) → IsTrueIn m p [] world (instance_at t a) u v ↔ IsTrueIn m p (c ∷ []) world a u v
  IsTrueIn-instance a world u v = IsTrueIn-put_in a 0 [] world u v

module _ (m : Model) (p : Values) (sorts : List Sort) (declared : (n : ℕ) (s : Sort) → slice_get sorts n ≡ Some s → IsConstantOf s (p n)) where
  no_bound : (n : ℕ) (s : Sort) → slice_get {X = Sort} [] n ≡ Some s → ⊥
  no_bound n s sorted = omega (arith, slice_get_within {A = Sort} [] n s sorted)

  -- a term in scope stands for a constant of its sort, whatever bound variables stand for
  pub sorted_value : (s : Sort) (t : Term) → HasSort sorts [] s t → IsConstantOf s (value m p [] t)
  sorted_value s (Prin name) sorted = record { constant = tt; sort = sorted }
  sorted_value s (File number) sorted = record { constant = tt; sort = sorted }
  sorted_value s (Perm permission) sorted = record { constant = tt; sort = sorted }
  sorted_value s (Time point) sorted = record { constant = tt; sort = sorted }
  sorted_value s (Text constant) sorted = record { constant = tt; sort = sorted }
  sorted_value s Ctime sorted = record { constant = tt; sort = sorted }
  sorted_value s (Param n) sorted = declared n s sorted
  sorted_value s (Bound n) sorted = absurd (no_bound n s sorted)

  pub sorted_stands : (s : Sort) (t : Term) → HasSort sorts [] s t → (bounds : List Term) → value m p bounds t ≡ value m p [] t
  sorted_stands s (Prin name) sorted bounds = refl
  sorted_stands s (File number) sorted bounds = refl
  sorted_stands s (Perm permission) sorted bounds = refl
  sorted_stands s (Time point) sorted bounds = refl
  sorted_stands s (Text constant) sorted bounds = refl
  sorted_stands s Ctime sorted bounds = refl
  sorted_stands s (Param n) sorted bounds = refl
  sorted_stands s (Bound n) sorted bounds = absurd (no_bound n s sorted)

-- a term in scope has declared parameters
pub sorted_below : (sorts : List Sort) (s : Sort) (t : Term) → HasSort sorts [] s t → IsParameterBelow (length sorts) t
sorted_below sorts s (Prin name) sorted = tt
sorted_below sorts s (File number) sorted = tt
sorted_below sorts s (Perm permission) sorted = tt
sorted_below sorts s (Time point) sorted = tt
sorted_below sorts s (Text constant) sorted = tt
sorted_below sorts s Ctime sorted = tt
sorted_below sorts s (Param n) sorted = slice_get_within sorts n s sorted
sorted_below sorts s (Bound n) sorted = tt

-- more parameters
pub IsBelow-more : (count more : ℕ) → count ≤ more → (t : Term) → IsParameterBelow count t → IsParameterBelow more t
IsBelow-more count more le (Prin name) below = tt
IsBelow-more count more le (File number) below = tt
IsBelow-more count more le (Perm permission) below = tt
IsBelow-more count more le (Time point) below = tt
IsBelow-more count more le (Text constant) below = tt
IsBelow-more count more le Ctime below = tt
IsBelow-more count more le (Param n) below = omega (arith, le, below)
IsBelow-more count more le (Bound n) below = tt

module _ (P Q : Term → Type 0) (weaker : (t : Term) → P t → Q t) where
  pub All-weaker : (terms : List Term) → AllByRecursion P terms → AllByRecursion Q terms
  All-weaker [] h = tt
  All-weaker (t ∷ terms) h = (weaker t h.0, All-weaker terms h.1)

  pub AllTerms-weaker : (a : FormulaView) → AllTerms P a → AllTerms Q a
  AllTerms-weaker (atom name terms) h = All-weaker terms h
  AllTerms-weaker (compare c) h = (weaker c.low h.0, weaker c.high h.1)
  AllTerms-weaker (state s) h = All-weaker (terms_of_state s) h
  AllTerms-weaker (both a b) h = (AllTerms-weaker a h.0, AllTerms-weaker b h.1)
  AllTerms-weaker (either a b) h = (AllTerms-weaker a h.0, AllTerms-weaker b h.1)
  AllTerms-weaker (implies a b) h = (AllTerms-weaker a h.0, AllTerms-weaker b h.1)
  AllTerms-weaker truth h = h
  AllTerms-weaker falsity h = h
  AllTerms-weaker (forall_ s a) h = AllTerms-weaker a h
  AllTerms-weaker (exists_ s a) h = AllTerms-weaker a h
  AllTerms-weaker (says k a) h = (weaker k h.0, AllTerms-weaker a h.1)
  AllTerms-weaker (on a u v) h = (AllTerms-weaker a h.0, (weaker u h.1.0, weaker v h.1.1))

module _ (count : ℕ) (t : Term) (below : IsParameterBelow count t) where
  chosen_below : (k : ℕ) (test : Bool) → IsParameterBelow count (if test then t else Bound k)
  chosen_below k true = below
  chosen_below k false = tt

  below-put_in : (n : ℕ) (s : Term) → IsParameterBelow count s → IsParameterBelow count (put_in_term n t s)
  below-put_in n (Prin name) h = tt
  below-put_in n (File number) h = tt
  below-put_in n (Perm permission) h = tt
  below-put_in n (Time point) h = tt
  below-put_in n (Text constant) h = tt
  below-put_in n Ctime h = tt
  below-put_in n (Param k) h = h
  below-put_in n (Bound k) h = chosen_below k (k == n)

  all_below-put_in : (n : ℕ) (terms : List Term) → AllByRecursion (IsParameterBelow count) terms → AllByRecursion (IsParameterBelow count) (map (put_in_term n t) terms)
  all_below-put_in n [] h = tt
  all_below-put_in n (s ∷ terms) h = (below-put_in n s h.0, all_below-put_in n terms h.1)

  state_below-put_in : (n : ℕ) (s : StatePred) → AllByRecursion (IsParameterBelow count) (terms_of_state s) → AllByRecursion (IsParameterBelow count) (terms_of_state (put_in_state n t s))
  state_below-put_in n (Owner file owner) h = all_below-put_in n (file ∷ owner ∷ []) h
  state_below-put_in n (HasXattr file name text) h = all_below-put_in n (file ∷ name ∷ text ∷ []) h
  state_below-put_in n (InDir file directory) h = all_below-put_in n (file ∷ directory ∷ []) h

  terms_below-put_in : (a : FormulaView) (n : ℕ) → AllTerms (IsParameterBelow count) a → AllTerms (IsParameterBelow count) (put_in n t a)
  terms_below-put_in (atom name terms) n h = all_below-put_in n terms h
  terms_below-put_in (compare c) n h = (below-put_in n c.low h.0, below-put_in n c.high h.1)
  terms_below-put_in (state s) n h = state_below-put_in n s h
  terms_below-put_in (both a b) n h = (terms_below-put_in a n h.0, terms_below-put_in b n h.1)
  terms_below-put_in (either a b) n h = (terms_below-put_in a n h.0, terms_below-put_in b n h.1)
  terms_below-put_in (implies a b) n h = (terms_below-put_in a n h.0, terms_below-put_in b n h.1)
  terms_below-put_in truth n h = h
  terms_below-put_in falsity n h = h
  terms_below-put_in (forall_ s a) n h = terms_below-put_in a (suc n) h
  terms_below-put_in (exists_ s a) n h = terms_below-put_in a (suc n) h
  terms_below-put_in (says k a) n h = (below-put_in n k h.0, terms_below-put_in a n h.1)
  terms_below-put_in (on a u v) n h = (terms_below-put_in a n h.0, (below-put_in n u h.1.0, below-put_in n v h.1.1))

  pub instance_below : (a : FormulaView) → AllTerms (IsParameterBelow count) a → AllTerms (IsParameterBelow count) (instance_at t a)
  instance_below a h = terms_below-put_in a 0 h
