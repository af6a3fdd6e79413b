-- Which open conditions a proof leaves over, as conditions of its grant (this project's own).
use Rattle.std.specs.Prelude.{Bool}
use Rattle.bl_syntax.specs.declared.terms.Constraint.{Constraint}
use Rattle.bl_syntax.specs.declared.terms.StatePred.{StatePred}
use Rattle.bl_syntax.specs.ConditionTests.{is_time_condition, is_state_condition}
use Rattle.proof_verifier.specs.Tests.{names_ctime_and_no_parameter, names_no_parameter}

-- a test of conditions on time, and one of conditions on the state
pub record LeftOver : Type 0 where
  pub time : Constraint → Bool
  pub state : StatePred → Bool

-- the rule: a condition on time that names the current time and no parameter, and one on the state
-- without a parameter
abbrev pub by_rule : LeftOver
by_rule = record { time = names_ctime_and_no_parameter; state = names_no_parameter }

-- what a grant can keep
abbrev pub by_grant : LeftOver
by_grant = record { time = is_time_condition; state = is_state_condition }
