-- When the conditions of a grant have to hold, and what it may leave over (this project's own).
use Rattle.std.specs.Prelude.{◌≡◌, ◌⊎◌, Bool, true, ℤ, List, Contains}
use Rattle.std.specs.List.{AllByRecursion}
use Rattle.bl_syntax.specs.declared.terms.Constraint.{Constraint}
use Rattle.bl_syntax.specs.declared.terms.StatePred.{StatePred}
use Rattle.bl_syntax.specs.declared.terms.TimePoint.TheVariants.{At}
use Rattle.condition_set.specs.Window.{LiesBetween, MeetsConditions, AreSatisfiable}
use Rattle.proof_search.specs.declared.asked.Moments.{Moments}
use Rattle.proof_search.specs.declared.asked.Moments.TheVariants as moments

-- the conditions on time hold at some moment, or at each one that is asked for
abbrev pub AreMet : Moments → List Constraint → Type 0
AreMet moments.Some times = AreSatisfiable times
AreMet (moments.Each from to) times = (second : ℤ) → LiesBetween (At from) (At to) second →
    MeetsConditions times second

-- the conditions on the state are facts, or may be left over
abbrev pub AreLeft : List StatePred → Bool → List StatePred → Type 0
AreLeft facts leaves states = (leaves ≡ true) ⊎ AllByRecursion (Contains facts) states
