-- The tests of a grant's conditions. Each decides what the definition of its name says (this
-- project's own).
use Rattle.std.specs.Prelude.{ℤ, Bool, true, false, not, ◌&&◌, ◌||◌, int_lt}
use Rattle.std.specs.List.{list_all}
use Rattle.bl_syntax.specs.declared.limits.TheConstants.{FIRST_MOMENT, LAST_MOMENT}
use Rattle.bl_syntax.specs.declared.terms.Term.{Term}
use Rattle.bl_syntax.specs.declared.terms.Term.TheVariants.{Prin, File, Perm, Time, Text, Ctime, Param, Bound}
use Rattle.bl_syntax.specs.declared.terms.TimePoint.{TimePoint}
use Rattle.bl_syntax.specs.declared.terms.TimePoint.TheVariants.{NegInf, At, PosInf}
use Rattle.bl_syntax.specs.declared.terms.Constraint.{Constraint}
use Rattle.bl_syntax.specs.declared.terms.StatePred.{StatePred}
use Rattle.bl_syntax.specs.WellSorted.{terms_of_state}

-- whether the first number is at most the second
abbrev pub is_at_most : ℤ → ℤ → Bool
is_at_most x y = not (int_lt y x)

-- whether the first time is not after the second
abbrev pub is_up_to : TimePoint → TimePoint → Bool
is_up_to NegInf v = true
is_up_to (At t) NegInf = false
is_up_to (At t) (At u) = is_at_most t u
is_up_to (At t) PosInf = true
is_up_to PosInf NegInf = false
is_up_to PosInf (At u) = false
is_up_to PosInf PosInf = true

-- whether the time is in the range of moments
abbrev pub is_in_range : TimePoint → Bool
is_in_range NegInf = true
is_in_range (At second) = is_at_most FIRST_MOMENT second && is_at_most second LAST_MOMENT
is_in_range PosInf = true

-- whether the term is a constant, with its time in the range of moments
abbrev pub is_constant_in_range : Term → Bool
is_constant_in_range (Prin name) = true
is_constant_in_range (File number) = true
is_constant_in_range (Perm permission) = true
is_constant_in_range (Time point) = is_in_range point
is_constant_in_range (Text constant) = true
is_constant_in_range Ctime = false
is_constant_in_range (Param n) = false
is_constant_in_range (Bound n) = false

-- whether the term is the current time
abbrev pub is_ctime : Term → Bool
is_ctime Ctime = true
is_ctime _ = false

-- whether a grant can keep the condition on time: it names the current time on at least one side,
-- and otherwise constants
abbrev pub is_time_condition : Constraint → Bool
is_time_condition c = (is_ctime c.low || is_ctime c.high)
    && ((is_ctime c.low || is_constant_in_range c.low)
    && (is_ctime c.high || is_constant_in_range c.high))

-- whether a grant can keep the condition on the state: it holds constants alone
abbrev pub is_state_condition : StatePred → Bool
is_state_condition s = list_all is_constant_in_range (terms_of_state s)
