-- The time between whose ends conditions on time hold (this project's own).
use Rattle.std.specs.Prelude.{◌↔◌, ℤ, List}
use Rattle.std.specs.List.{AllByRecursion}
use Rattle.bl_syntax.specs.declared.terms.Constraint.{Constraint}
use Rattle.bl_syntax.specs.declared.terms.TimePoint.{TimePoint}
use Rattle.bl_syntax.specs.declared.terms.TimePoint.TheVariants.{At}
use Rattle.bl_syntax.specs.TimeOrder.{IsUpTo, IsMoment, IsInRange}
use Rattle.bl_syntax.specs.Grant.{HoldsAt}

-- the second is neither before the first time nor after the last
pub record LiesBetween (first last : TimePoint) (second : ℤ) : Type 0 where
  pub not_before : IsUpTo first (At second)
  pub not_after : IsUpTo (At second) last

-- all of the conditions hold at the second
abbrev pub MeetsConditions : List Constraint → ℤ → Type 0
MeetsConditions conditions second = AllByRecursion (HoldsAt second) conditions

-- some moment meets the conditions
pub record AreSatisfiable (conditions : List Constraint) : Type 0 where
  pub moment : ℤ
  pub in_range : IsMoment moment
  pub meets : MeetsConditions conditions moment

-- the conditions hold exactly from the first time to the last, which are the least and the greatest
-- such ends: no later
-- time comes before all seconds that meet the conditions, and no earlier one after all of them
pub record IsWindow (conditions : List Constraint) (first last : TimePoint) : Type 0 where
  pub between : (second : ℤ) → MeetsConditions conditions second ↔ LiesBetween first last second
  pub least : (time : TimePoint) →
      ((second : ℤ) → MeetsConditions conditions second → IsUpTo time (At second)) →
      IsUpTo time first
  pub greatest : (time : TimePoint) →
      ((second : ℤ) → MeetsConditions conditions second → IsUpTo (At second) time) →
      IsUpTo last time
  pub is_met : AreSatisfiable conditions
  pub first_in_range : IsInRange first
  pub last_in_range : IsInRange last
