-- The conditions so far hold exactly from the first time to the last.
use Rattle.std.proofs.Common.{ℤ, take}
use Rattle.std.specs.Prelude.{◌↔◌}
use Rattle.bl_syntax.specs.TimeOrder.{IsInRange}
use Rattle.condition_set.specs.Window.{LiesBetween, MeetsConditions}
use Rattle.condition_set.proofs.time_window.window.Given as goal

abbrev pub invariant-loop-c : goal.invariant-loop-c
invariant-loop-c l =
    record {
      between : (second : ℤ) → MeetsConditions (take l.c-index l.c-items) second ↔ LiesBetween l.first l.last second;
      first_in_range : IsInRange l.first;
      last_in_range : IsInRange l.last;
    }
