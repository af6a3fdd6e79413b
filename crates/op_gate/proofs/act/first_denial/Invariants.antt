-- The needs before this place are met.
use Rattle.std.proofs.Common.{take}
use Rattle.std.specs.List.{AllByRecursion}
use Rattle.world_state.specs.Needed.{placed}
use Rattle.access_history.specs.Admission.{IsNeedMet}
use Rattle.access_history.specs.History.{state_of}
use Rattle.op_gate.proofs.act.first_denial.Given as goal

abbrev pub invariant-loop-place : goal.invariant-loop-place
invariant-loop-place l = AllByRecursion (IsNeedMet l.history.key (state_of l.history) l.caller l.procaps l.moment) (placed 1 (take l.place l.pairs))
