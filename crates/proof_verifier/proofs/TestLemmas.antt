-- Each test of the verdict decides what its name says.
use Rattle.std.proofs.Common.{◌≡◌, ◌∙◌, ◌⊎◌, ◌+◌, Bool, true, false, ◌&&◌, ◌||◌, List, [], ◌∷◌, length, refl, sym, ap, ap₂, subst, eqb-true, eq-eqb}
use Rattle.std.specs.Prelude.{Contains, Option, Some, None, not}
use Rattle.std.specs.Bool.{Decides}
use Rattle.std.specs.List.{list_any, AllByRecursion}
use Rattle.std.proofs.lemmas.Bool.{false≢true}
use Rattle.std.proofs.lemmas.Bool.Decides.{Decides-by_or, Decides-or, Decides-and}
use Rattle.std.proofs.lemmas.List.Elements.{Decides-contains}
use Rattle.bl_syntax.specs.declared.terms.Sort.{Sort}
use Rattle.bl_syntax.specs.declared.terms.Term.{Term}
use Rattle.bl_syntax.specs.declared.terms.Term.TheVariants.{Ctime, Param}
use Rattle.bl_syntax.specs.declared.terms.Constraint.{Constraint}
use Rattle.bl_syntax.specs.declared.terms.StatePred.{StatePred}
use Rattle.bl_syntax.specs.Terms.{IsAtLeastAsStrong}
use Rattle.bl_syntax.specs.WellSorted.{terms_of_state}
use Rattle.bl_syntax.specs.ConditionTests.{is_ctime}
use Rattle.bl_syntax.specs.Grant.{GrantView}
use Rattle.bl_syntax.specs.Equality.{term_eq, constraint_eq, state_eq}
use Rattle.bl_syntax.proofs.ConditionTestLemmas.{both_true}
use Rattle.bl_syntax.proofs.EqualityLemmas.{Decides-sort_eq, Decides-term_eq, Decides-constraint_eq, Decides-state_eq}
use Rattle.proof_verifier.specs.Tests.{are_same, has_constraint, has_state, is_as_strong, IsParameter, is_parameter, names_ctime_and_no_parameter, names_no_parameter}
use Rattle.proof_verifier.specs.Conditions.{of_sort, is_full}

among_decides : {X : Type 0} (same : X → X → Bool) → ((a b : X) → Decides (same a b) (a ≡ b))
    → (xs : List X) (x : X) → Decides (list_any (λ kept. same kept x) xs) (Contains xs x)
among_decides same decides xs x =
    Decides-contains xs x (list_any (λ kept. same kept x) xs)
    (Decides-by_or (λ kept. same kept x) (λ kept. kept ≡ x) (list_any (λ kept. same kept x)) (λ kept. decides kept x) refl (λ _ _. refl) xs)

pub Decides-has_constraint : (constraints : List Constraint) (c : Constraint) → Decides (has_constraint constraints c) (Contains constraints c)
Decides-has_constraint constraints c = among_decides constraint_eq Decides-constraint_eq constraints c

pub Decides-has_state : (predicates : List StatePred) (s : StatePred) → Decides (has_state predicates s) (Contains predicates s)
Decides-has_state predicates s = among_decides state_eq Decides-state_eq predicates s

pub Decides-is_as_strong : (k other : Term) → Decides (is_as_strong k other) (IsAtLeastAsStrong k other)
Decides-is_as_strong k other = Decides-or _ _ (Decides-term_eq k other) (Decides-term_eq k _)

pub same_terms : (terms others : List Term) → are_same terms others ≡ true → terms ≡ others
same_terms [] [] e = refl
same_terms [] (other ∷ others) e = absurd (false≢true e)
same_terms (term ∷ terms) [] e = absurd (false≢true e)
same_terms (term ∷ terms) (other ∷ others) e =
    let parts = both_true (term_eq term other) (are_same terms others) e in
    ap₂ ◌∷◌ ((Decides-term_eq term other).0 parts.0) (same_terms terms others parts.1)

both : (x y : Bool) → x ≡ true → y ≡ true → (x && y) ≡ true
both true y first second = second
both false y first second = absurd (false≢true first)

Decides-is_ctime : (t : Term) → Decides (is_ctime t) (t ≡ Ctime)
Decides-is_ctime Ctime = (λ e. refl, λ e. refl)
Decides-is_ctime _ = (λ e. absurd (false≢true e), λ e. cc)

Decides-is_no_parameter : (t : Term) → Decides (not (is_parameter t)) (IsParameter t → ⊥)
Decides-is_no_parameter (Param n) = (λ e. absurd (false≢true e), λ h. absurd (h tt))
Decides-is_no_parameter _ = (λ e h. h, λ h. refl)

pub Decides-names_ctime : (c : Constraint) → Decides (names_ctime_and_no_parameter c) (((c.low ≡ Ctime) ⊎ (c.high ≡ Ctime)) × ((IsParameter c.low → ⊥) × (IsParameter c.high → ⊥)))
Decides-names_ctime c =
    Decides-and _ _ (Decides-or _ _ (Decides-is_ctime c.low) (Decides-is_ctime c.high)) (Decides-and _ _ (Decides-is_no_parameter c.low) (Decides-is_no_parameter c.high))

not_either : (x y : Bool) → not (x || y) ≡ (not x && not y)
not_either true y = refl
not_either false y = refl

Decides-have_no_parameter : (terms : List Term) → Decides (not (list_any is_parameter terms)) (AllByRecursion (λ (t : Term). IsParameter t → ⊥) terms)
Decides-have_no_parameter [] = (λ e. tt, λ h. refl)
Decides-have_no_parameter (t ∷ terms) =
    subst (λ (test : Bool). Decides test (AllByRecursion (λ (u : Term). IsParameter u → ⊥) (t ∷ terms))) (sym (not_either (is_parameter t) (list_any is_parameter terms)))
    (Decides-and _ _ (Decides-is_no_parameter t) (Decides-have_no_parameter terms))

pub Decides-names_no_parameter : (s : StatePred) → Decides (names_no_parameter s) (AllByRecursion (λ (t : Term). IsParameter t → ⊥) (terms_of_state s))
Decides-names_no_parameter s = Decides-have_no_parameter (terms_of_state s)

same_as_itself : (terms : List Term) → are_same terms terms ≡ true
same_as_itself [] = refl
same_as_itself (t ∷ terms) = both _ (are_same terms terms) ((Decides-term_eq t t).1 refl) (same_as_itself terms)

pub Decides-are_same : (terms others : List Term) → Decides (are_same terms others) (terms ≡ others)
Decides-are_same terms others =
    (same_terms terms others, λ e. subst (λ (list : List Term). are_same terms list ≡ true) e (same_as_itself terms))

pub of_its_sort : (sort : Sort) (found : Option Sort) → of_sort sort found ≡ true → found ≡ Some sort
of_its_sort sort None e = absurd (false≢true e)
of_its_sort sort (Some found) e = ap Some ((Decides-sort_eq found sort).0 e)

pub Decides-of_sort : (sort : Sort) (found : Option Sort) → Decides (of_sort sort found) (found ≡ Some sort)
Decides-of_sort sort found =
    (of_its_sort sort found, λ e. ap (λ (other : Option Sort). of_sort sort other) e ∙ (Decides-sort_eq sort sort).1 refl)

pub Decides-is_full : (g : GrantView) → Decides (is_full g) (length g.times + length g.states ≡ 64)
Decides-is_full g = (λ e. eqb-true _ _ e, λ e. eq-eqb _ _ e)
