-- When a procap counts as ended (this project's own).
use Rattle.std.specs.Prelude.{ℤ, ◌≤ℤ◌, List}
use Rattle.bl_syntax.specs.declared.terms.Constraint.{Constraint}
use Rattle.condition_set.specs.Window.{MeetsConditions}

-- no second from this one on meets the conditions
abbrev pub IsEnded : List Constraint → ℤ → Type 0
IsEnded conditions second = (later : ℤ) → second ≤ℤ later → MeetsConditions conditions later → ⊥
