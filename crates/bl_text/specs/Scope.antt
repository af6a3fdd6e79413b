-- The variables in scope at a place of a text, the innermost first, each with the sort of its
-- binder.
use Rattle.std.specs.Prelude.{ℕ, zero, suc, List, [], ◌∷◌, Bool, true, false, Option, Some, None, if◌then◌else◌}
use Rattle.std.specs.Str.{bytes_eq}
use Rattle.std.specs.Option.{option_map}
use Rattle.bl_syntax.specs.declared.terms.Sort.{Sort}
use Rattle.bl_syntax.specs.declared.terms.Sort.TheVariants as sorts
use Rattle.bl_syntax.specs.declared.terms.Term.{Term}
use Rattle.bl_syntax.specs.declared.terms.Term.TheVariants.{Prin, File, Perm, Time, Text, Ctime, Param, Bound}
use Rattle.bl_text.specs.declared.scope.Scope.{Scope}
use Rattle.bl_text.specs.declared.scope.Scope.TheVariants as code

-- a name and a sort
abbrev pub Variable : Type 0
Variable = List ℕ × Sort

abbrev pub variables : Scope → List Variable
variables code.Outermost = []
variables (code.Inside' name s p others) = (name, s) ∷ variables others

-- how many binders stand inside that of the nearest variable of the name
abbrev pub place_of : List Variable → List ℕ → Option ℕ
place_of [] name = None
place_of (v ∷ others) name = if bytes_eq v.0 name then Some 0 else option_map suc (place_of others name)

-- the sort of the variable with that many binders inside its own
abbrev pub sort_of_place : List Variable → ℕ → Option Sort
sort_of_place [] inner = None
sort_of_place (v ∷ others) zero = Some v.1
sort_of_place (v ∷ others) (suc inner) = sort_of_place others inner

-- the sort of a term; none for a parameter, which may have any
abbrev pub term_sort : List Variable → Term → Option Sort
term_sort scope (Prin name) = Some sorts.Principal
term_sort scope (File number) = Some sorts.File
term_sort scope (Perm permission) = Some sorts.Perm
term_sort scope (Time point) = Some sorts.Time
term_sort scope (Text constant) = Some sorts.Text
term_sort scope Ctime = Some sorts.Time
term_sort scope (Param n) = None
term_sort scope (Bound n) = sort_of_place scope n

abbrev pub is_same_sort : Sort → Sort → Bool
is_same_sort sorts.Principal sorts.Principal = true
is_same_sort sorts.File sorts.File = true
is_same_sort sorts.Perm sorts.Perm = true
is_same_sort sorts.Time sorts.Time = true
is_same_sort sorts.Text sorts.Text = true
is_same_sort wanted found = false

abbrev is_wanted_sort : Sort → Option Sort → Bool
is_wanted_sort wanted None = true
is_wanted_sort wanted (Some found) = is_same_sort wanted found

-- whether the term may stand where that sort is wanted
abbrev pub is_of_wanted_sort : List Variable → Sort → Term → Bool
is_of_wanted_sort scope wanted t = is_wanted_sort wanted (term_sort scope t)
