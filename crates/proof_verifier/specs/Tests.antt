-- Tests on terms, constraints and predicates on the state. Each decides what its name says.
use Rattle.std.specs.Prelude.{List, Bool, true, false, not, ◌&&◌, ◌||◌, codes}
use Rattle.std.specs.List.{list_any}
use Rattle.std.specs.Cmp.Lexicographic.{pointwise}
use Rattle.bl_syntax.specs.declared.terms.Term.{Term}
use Rattle.bl_syntax.specs.declared.terms.Term.TheVariants.{Prin, Param}
use Rattle.bl_syntax.specs.declared.terms.Constraint.{Constraint}
use Rattle.bl_syntax.specs.declared.terms.StatePred.{StatePred}
use Rattle.bl_syntax.specs.WellSorted.{terms_of_state}
use Rattle.bl_syntax.specs.Equality.{term_eq, constraint_eq, state_eq}
use Rattle.bl_syntax.specs.ConditionTests.{is_ctime}

-- whether they are the same terms in the same order
abbrev pub are_same : List Term → List Term → Bool
are_same terms others = pointwise term_eq terms others

-- whether the constraint is among these
abbrev pub has_constraint : List Constraint → Constraint → Bool
has_constraint constraints c = list_any (λ kept. constraint_eq kept c) constraints

-- whether the predicate is among these
abbrev pub has_state : List StatePred → StatePred → Bool
has_state predicates s = list_any (λ kept. state_eq kept s) predicates

-- whether the first principal is at least as strong as the second: they are equal, or the first is
-- `loc`
abbrev pub is_as_strong : Term → Term → Bool
is_as_strong k other = term_eq k other || term_eq k (Prin (codes "loc"))

-- the term is a parameter
abbrev pub IsParameter : Term → Type 0
IsParameter (Param n) = Unit {0}
IsParameter _ = ⊥

-- whether the term is a parameter
abbrev pub is_parameter : Term → Bool
is_parameter (Param n) = true
is_parameter _ = false

-- whether the condition on time names the current time and no parameter
abbrev pub names_ctime_and_no_parameter : Constraint → Bool
names_ctime_and_no_parameter c = (is_ctime c.low || is_ctime c.high) && (not (is_parameter c.low) && not (is_parameter c.high))

-- whether the condition on the state is without a parameter
abbrev pub names_no_parameter : StatePred → Bool
names_no_parameter s = not (list_any is_parameter (terms_of_state s))
