-- What one statement grants outright: its body is the goal, and who says it speaks for `admin`.
-- This project's own.
use Rattle.std.specs.Prelude.{ℕ, List, [], ◌∷◌, ◌++◌}
use Rattle.bl_syntax.specs.declared.terms.TimePoint.{TimePoint}
use Rattle.bl_syntax.specs.declared.terms.TimePoint.TheVariants.{NegInf, At, PosInf}
use Rattle.bl_syntax.specs.declared.terms.Term.TheVariants.{Prin, Time, Ctime}
use Rattle.bl_syntax.specs.declared.terms.Constraint.{Constraint}
use Rattle.bl_syntax.specs.declared.grant.Goal.{Goal}
use Rattle.bl_syntax.specs.Formula.{FormulaView}
use Rattle.bl_syntax.specs.Terms.{IsAtLeastAsStrong}
use Rattle.bl_syntax.specs.Statement.{StatementView}
use Rattle.bl_syntax.specs.Grant.{GrantView}
use Rattle.bl_rules.specs.Allowed.{admin, access}

-- what a goal asks for: that its principal may have the permission on the file
abbrev pub goal_formula : Goal → FormulaView
goal_formula goal = access goal.who goal.file goal.perm

-- the principal speaks for `admin`
abbrev pub SpeaksForAdmin : List ℕ → Type 0
SpeaksForAdmin who = IsAtLeastAsStrong (Prin who) admin

-- that the interval has begun: left open, but for an interval without a beginning
abbrev pub has_begun : TimePoint → List Constraint
has_begun NegInf = []
has_begun (At second) = record { low = Time (At second); high = Ctime } ∷ []
has_begun PosInf = record { low = Time PosInf; high = Ctime } ∷ []

-- that it has not ended: left open, but for an interval without an end
abbrev pub has_not_ended : TimePoint → List Constraint
has_not_ended NegInf = record { low = Ctime; high = Time NegInf } ∷ []
has_not_ended (At second) = record { low = Ctime; high = Time (At second) } ∷ []
has_not_ended PosInf = []

-- the goal, under the condition that the statement's interval holds the current time
abbrev pub granted_by : StatementView → Goal → GrantView
granted_by statement goal = record { goal = goal; times = has_begun statement.from ++ has_not_ended statement.to; states = []; cited = [] }
