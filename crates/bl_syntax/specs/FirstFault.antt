-- The first fault of a formula: of the limits, and then in preorder, each node before its parts,
-- the parts from left to right. The order is this project's own.
use Rattle.std.specs.Prelude.{◌≡◌, Result, MatchResult, List, [], ◌∷◌, Option, Some, None, nat_le, ◌&&◌, if◌then◌else◌}
use Rattle.std.specs.Str.{bytes_eq}
use Rattle.bl_syntax.specs.declared.limits.TheConstants.{MOST_FORMULA_NODES, MOST_ARGUMENTS}
use Rattle.bl_syntax.specs.declared.terms.Sort.{Sort}
use Rattle.bl_syntax.specs.declared.terms.Sort.TheVariants as sorts
use Rattle.bl_syntax.specs.declared.terms.Term.{Term}
use Rattle.bl_syntax.specs.declared.terms.StatePred.{StatePred}
use Rattle.bl_syntax.specs.declared.terms.StatePred.TheVariants.{Owner, HasXattr, InDir}
use Rattle.bl_syntax.specs.declared.check.SyntaxFault.{SyntaxFault}
use Rattle.bl_syntax.specs.declared.check.SyntaxFault.TheVariants.{WrongSort, WrongArity, Unbound, TooLarge}
use Rattle.bl_syntax.specs.Formula.{FormulaView, atom, compare, state, both, either, implies, truth, falsity, forall_, exists_, says, on}
use Rattle.bl_syntax.specs.Terms.{sort_of}
use Rattle.bl_syntax.specs.WellSorted.{may, size, widest_atom}

-- the first of two places that has a fault
abbrev pub first_of : Option SyntaxFault → Option SyntaxFault → Option SyntaxFault
first_of (Some fault) later = Some fault
first_of None later = later

-- a fault if the sorts differ
abbrev pub sort_mismatch : Sort → Sort → Option SyntaxFault
sort_mismatch sorts.Principal sorts.Principal = None
sort_mismatch sorts.File sorts.File = None
sort_mismatch sorts.Perm sorts.Perm = None
sort_mismatch sorts.Time sorts.Time = None
sort_mismatch sorts.Text sorts.Text = None
sort_mismatch wanted found = Some WrongSort

-- a term of this sort is wanted, and one of that sort, or out of scope, is found
abbrev pub sort_fault : Sort → Option Sort → Option SyntaxFault
sort_fault wanted None = Some Unbound
sort_fault wanted (Some found) = sort_mismatch wanted found

-- any term is wanted
abbrev pub scope_fault : Option Sort → Option SyntaxFault
scope_fault None = Some Unbound
scope_fault (Some found) = None

abbrev pub term_fault : List Sort → List Sort → Sort → Term → Option SyntaxFault
term_fault parameters binders wanted t = sort_fault wanted (sort_of parameters binders t)

-- terms of any sort
abbrev pub scopes_fault : List Sort → List Sort → List Term → Option SyntaxFault
scopes_fault parameters binders [] = None
scopes_fault parameters binders (t ∷ terms) = first_of (scope_fault (sort_of parameters binders t)) (scopes_fault parameters binders terms)

-- the arguments of `may`: their number, then each in order
abbrev pub may_fault : List Sort → List Sort → List Term → Option SyntaxFault
may_fault parameters binders (who ∷ file ∷ permission ∷ []) =
    first_of (term_fault parameters binders sorts.Principal who)
    (first_of (term_fault parameters binders sorts.File file)
    (term_fault parameters binders sorts.Perm permission))
may_fault parameters binders _ = Some WrongArity

abbrev pub state_fault : List Sort → List Sort → StatePred → Option SyntaxFault
state_fault parameters binders (Owner file owner) =
    first_of (term_fault parameters binders sorts.File file)
    (term_fault parameters binders sorts.Principal owner)
state_fault parameters binders (HasXattr file name value) =
    first_of (term_fault parameters binders sorts.File file)
    (first_of (term_fault parameters binders sorts.Text name)
    (term_fault parameters binders sorts.Text value))
state_fault parameters binders (InDir file directory) =
    first_of (term_fault parameters binders sorts.File file)
    (term_fault parameters binders sorts.File directory)

abbrev pub times_fault : List Sort → List Sort → Term → Term → Option SyntaxFault
times_fault parameters binders u v = first_of (term_fault parameters binders sorts.Time u) (term_fault parameters binders sorts.Time v)

-- the first fault of sorts, numbers of arguments and scopes
abbrev pub sorting_fault : List Sort → List Sort → FormulaView → Option SyntaxFault
sorting_fault parameters binders (atom name terms) = if bytes_eq name may then may_fault parameters binders terms else scopes_fault parameters binders terms
sorting_fault parameters binders (compare c) = times_fault parameters binders c.low c.high
sorting_fault parameters binders (state s) = state_fault parameters binders s
sorting_fault parameters binders (both a b) = first_of (sorting_fault parameters binders a) (sorting_fault parameters binders b)
sorting_fault parameters binders (either a b) = first_of (sorting_fault parameters binders a) (sorting_fault parameters binders b)
sorting_fault parameters binders (implies a b) = first_of (sorting_fault parameters binders a) (sorting_fault parameters binders b)
sorting_fault parameters binders truth = None
sorting_fault parameters binders falsity = None
sorting_fault parameters binders (forall_ s a) = sorting_fault parameters (s ∷ binders) a
sorting_fault parameters binders (exists_ s a) = sorting_fault parameters (s ∷ binders) a
sorting_fault parameters binders (says k a) = first_of (term_fault parameters binders sorts.Principal k) (sorting_fault parameters binders a)
sorting_fault parameters binders (on a u v) = first_of (sorting_fault parameters binders a) (times_fault parameters binders u v)

-- the first fault: of the limits, and then of the rest
abbrev pub formula_fault : List Sort → FormulaView → Option SyntaxFault
formula_fault parameters f =
    if nat_le (size f) MOST_FORMULA_NODES && nat_le (widest_atom f) MOST_ARGUMENTS then sorting_fault parameters [] f else Some TooLarge

-- a check gives the fault that there is, and passes if there is none
abbrev pub Finds : Result (Unit {0}) SyntaxFault → Option SyntaxFault → Type 0
Finds result fault = MatchResult result (λ _. fault ≡ None) (λ found. fault ≡ Some found)
