-- Entailment between times, computed: whether links lead from one term to another, where each
-- constraint is passed at most once on the way. It takes exponential time, and says the
-- same as the relation of entailment.
use Rattle.std.specs.Prelude.{List, [], ◌∷◌, Bool, false, not, ◌&&◌, ◌||◌}
use Rattle.std.specs.List.{list_any}
use Rattle.bl_syntax.specs.declared.terms.Term.{Term}
use Rattle.bl_syntax.specs.declared.terms.Term.TheVariants.{Time}
use Rattle.bl_syntax.specs.declared.terms.TimePoint.TheVariants.{NegInf, PosInf}
use Rattle.bl_syntax.specs.declared.terms.Constraint.{Constraint}
use Rattle.bl_syntax.specs.Equality.{term_eq}
use Rattle.bl_syntax.specs.ConditionTests.{is_up_to}

-- whether they are two constant times, the first not after the second
abbrev pub are_in_order : Term → Term → Bool
are_in_order (Time u) (Time v) = is_up_to u v
are_in_order _ _ = false

-- whether they are two constant times, the first after the second
abbrev pub are_out_of_order : Term → Term → Bool
are_out_of_order (Time u) (Time v) = not (is_up_to u v)
are_out_of_order _ _ = false

-- whether the first term is not after the second under any constraints
abbrev pub is_plain_link : Term → Term → Bool
is_plain_link u v = term_eq u v || are_in_order u v || term_eq u (Time NegInf) || term_eq v (Time PosInf)

-- whether links lead from the first term to the second: past the first constraint, or by it
abbrev pub has_chain : List Constraint → Term → Term → Bool
has_chain [] u v = is_plain_link u v
has_chain (c ∷ others) u v = has_chain others u v || (has_chain others u c.low && has_chain others c.high v)

-- whether the constraints lead from a constant to a lesser one
abbrev pub is_contradictory : List Constraint → Bool
is_contradictory constraints =
    list_any (λ (first : Constraint).
    list_any (λ (last : Constraint). are_out_of_order first.low last.high
    && has_chain constraints first.low last.high) constraints) constraints

-- whether the constraints entail that the first term is not after the second
unfoldable pub is_entailed : List Constraint → Term → Term → Bool
is_entailed constraints u v = has_chain constraints u v || is_contradictory constraints
