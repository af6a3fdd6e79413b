-- What constraints between times say: an assignment gives each term a time, and meets a constraint
-- or not.
use Rattle.std.specs.Prelude.{◌≡◌, List, Contains}
use Rattle.bl_syntax.specs.declared.terms.TimePoint.{TimePoint}
use Rattle.bl_syntax.specs.declared.terms.Term.{Term}
use Rattle.bl_syntax.specs.declared.terms.Term.TheVariants.{Time}
use Rattle.bl_syntax.specs.declared.terms.Constraint.{Constraint}
use Rattle.bl_syntax.specs.TimeOrder.{IsUpTo}

-- each constant time is itself; any other term, as the current time or a parameter, is at any time
pub record IsAssignment (time_of : Term → TimePoint) : Type 0 where
  pub constants : (point : TimePoint) → time_of (Time point) ≡ point

-- the constraints are true under the assignment
pub record AreTrueUnder (time_of : Term → TimePoint) (constraints : List Constraint) : Type 0 where
  pub each : (c : Constraint) → Contains constraints c → IsUpTo (time_of c.low) (time_of c.high)
