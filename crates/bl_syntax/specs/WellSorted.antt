-- Which formulas are closed and well sorted, and within the limits. The sorts of predicates and the
-- limits are this project's own.
use Rattle.std.specs.Prelude.{◌≡◌, ◌≤◌, ℕ, ◌+◌, max, List, [], ◌∷◌, length, codes, Some, IsSome}
use Rattle.std.specs.List.{AllByRecursion}
use Rattle.bl_syntax.specs.declared.limits.TheConstants.{MOST_FORMULA_NODES, MOST_ARGUMENTS}
use Rattle.bl_syntax.specs.declared.terms.Sort.{Sort}
use Rattle.bl_syntax.specs.declared.terms.Sort.TheVariants as sorts
use Rattle.bl_syntax.specs.declared.terms.Term.{Term}
use Rattle.bl_syntax.specs.declared.terms.Constraint.{Constraint}
use Rattle.bl_syntax.specs.declared.terms.StatePred.{StatePred}
use Rattle.bl_syntax.specs.declared.terms.StatePred.TheVariants.{Owner, HasXattr, InDir}
use Rattle.bl_syntax.specs.Formula.{FormulaView, atom, compare, state, both, either, implies, truth, falsity, forall_, exists_, says, on}
use Rattle.bl_syntax.specs.Terms.{sort_of}

-- the predicate by which a policy gives a principal a permission on a file
abbrev pub may : List ℕ
may = codes "may"

-- the sorts of the arguments of `may`
abbrev pub sorts_of_may : List Sort
sorts_of_may = sorts.Principal ∷ sorts.File ∷ sorts.Perm ∷ []

-- the term is in scope and has this sort
abbrev pub HasSort : List Sort → List Sort → Sort → Term → Type 0
HasSort parameters binders s t = sort_of parameters binders t ≡ Some s

-- the term is in scope
abbrev pub IsInScope : List Sort → List Sort → Term → Type 0
IsInScope parameters binders t = IsSome (sort_of parameters binders t)

-- the terms are in scope and have these sorts, one each
abbrev pub HaveSorts : List Sort → List Sort → List Sort → List Term → Type 0
HaveSorts parameters binders [] [] = Unit {0}
HaveSorts parameters binders [] (t ∷ terms) = ⊥
HaveSorts parameters binders (s ∷ wanted) [] = ⊥
HaveSorts parameters binders (s ∷ wanted) (t ∷ terms) = HasSort parameters binders s t ×
    HaveSorts parameters binders wanted terms

-- the arguments fit the predicate: `may` takes a principal, a file and a permission, any other
-- predicate any terms
pub record FitsPredicate (parameters binders : List Sort) (name : List ℕ) (terms : List Term) : Type 0 where
  pub in_scope : AllByRecursion (IsInScope parameters binders) terms
  pub of_may : name ≡ may → HaveSorts parameters binders sorts_of_may terms

abbrev pub IsSortedState : List Sort → List Sort → StatePred → Type 0
IsSortedState parameters binders (Owner file owner) = HasSort parameters binders sorts.File file ×
    HasSort parameters binders sorts.Principal owner
IsSortedState parameters binders (HasXattr file name value) = HasSort parameters binders sorts.File file ×
    (HasSort parameters binders sorts.Text name × HasSort parameters binders sorts.Text value)
IsSortedState parameters binders (InDir file directory) = HasSort parameters binders sorts.File file × HasSort parameters binders sorts.File directory

abbrev pub IsSortedConstraint : List Sort → List Sort → Constraint → Type 0
IsSortedConstraint parameters binders c = HasSort parameters binders sorts.Time c.low ×
    HasSort parameters binders sorts.Time c.high

-- closed and well sorted, where parameters and binders (the innermost first) have these sorts
abbrev pub IsWellSorted : List Sort → List Sort → FormulaView → Type 0
IsWellSorted parameters binders (atom name terms) = FitsPredicate parameters binders name terms
IsWellSorted parameters binders (compare c) = IsSortedConstraint parameters binders c
IsWellSorted parameters binders (state s) = IsSortedState parameters binders s
IsWellSorted parameters binders (both a b) = IsWellSorted parameters binders a ×
    IsWellSorted parameters binders b
IsWellSorted parameters binders (either a b) = IsWellSorted parameters binders a ×
    IsWellSorted parameters binders b
IsWellSorted parameters binders (implies a b) = IsWellSorted parameters binders a ×
    IsWellSorted parameters binders b
IsWellSorted parameters binders truth = Unit {0}
IsWellSorted parameters binders falsity = Unit {0}
IsWellSorted parameters binders (forall_ s a) = IsWellSorted parameters (s ∷ binders) a
IsWellSorted parameters binders (exists_ s a) = IsWellSorted parameters (s ∷ binders) a
IsWellSorted parameters binders (says k a) = HasSort parameters binders sorts.Principal k ×
    IsWellSorted parameters binders a
IsWellSorted parameters binders (on a u v) = IsWellSorted parameters binders a ×
    (HasSort parameters binders sorts.Time u × HasSort parameters binders sorts.Time v)

abbrev pub terms_of_state : StatePred → List Term
terms_of_state (Owner file owner) = file ∷ owner ∷ []
terms_of_state (HasXattr file name value) = file ∷ name ∷ value ∷ []
terms_of_state (InDir file directory) = file ∷ directory ∷ []

-- the number of its nodes: formulas and terms
abbrev pub size : FormulaView → ℕ
size (atom name terms) = 1 + length terms
size (compare c) = 3
size (state s) = 1 + length (terms_of_state s)
size (both a b) = 1 + size a + size b
size (either a b) = 1 + size a + size b
size (implies a b) = 1 + size a + size b
size truth = 1
size falsity = 1
size (forall_ s a) = 1 + size a
size (exists_ s a) = 1 + size a
size (says k a) = 2 + size a
size (on a u v) = 3 + size a

-- the greatest number of arguments of an atom in it
abbrev pub widest_atom : FormulaView → ℕ
widest_atom (atom name terms) = length terms
widest_atom (compare c) = 0
widest_atom (state s) = 0
widest_atom (both a b) = max (widest_atom a) (widest_atom b)
widest_atom (either a b) = max (widest_atom a) (widest_atom b)
widest_atom (implies a b) = max (widest_atom a) (widest_atom b)
widest_atom truth = 0
widest_atom falsity = 0
widest_atom (forall_ s a) = widest_atom a
widest_atom (exists_ s a) = widest_atom a
widest_atom (says k a) = widest_atom a
widest_atom (on a u v) = widest_atom a

-- at most 512 nodes, and no atom with more than 8 arguments
pub record IsWithinLimits (f : FormulaView) : Type 0 where
  pub nodes : size f ≤ MOST_FORMULA_NODES
  pub arguments : widest_atom f ≤ MOST_ARGUMENTS

-- a formula that may be used where the parameters have these sorts
pub record IsFormula (parameters : List Sort) (f : FormulaView) : Type 0 where
  pub within_limits : IsWithinLimits f
  pub well_sorted : IsWellSorted parameters [] f
