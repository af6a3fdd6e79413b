-- The conditions hold at each moment between the ends of their window.
use Rattle.std.proofs.Common.{ℤ, List}
use Rattle.bl_syntax.specs.declared.terms.Constraint.{Constraint}
use Rattle.bl_syntax.specs.declared.terms.TimePoint.{TimePoint}
use Rattle.bl_syntax.specs.declared.terms.TimePoint.TheVariants.{At}
use Rattle.bl_syntax.specs.TimeOrder.{IsUpTo}
use Rattle.bl_syntax.proofs.EntailmentLemmas.{IsUpTo-transitive}
use Rattle.condition_set.specs.Window.{LiesBetween, MeetsConditions, IsWindow}

pub met_between : (times : List Constraint) (first last : TimePoint) (from to : ℤ) → IsWindow times first last → IsUpTo first (At from) → IsUpTo (At to) last →
    (second : ℤ) → LiesBetween (At from) (At to) second → MeetsConditions times second
met_between times first last from to window begins ends second lies = (window.between second).1 (record {
  not_before = IsUpTo-transitive first (At from) (At second) begins lies.not_before;
  not_after = IsUpTo-transitive (At second) (At to) last lies.not_after ends;
})
