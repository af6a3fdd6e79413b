-- The classes of the principals before this one are stated.
use Rattle.std.proofs.Common.{ℕ, List, map, take}
use Rattle.std.specs.Prelude.{Ok}
use Rattle.mode_policy.specs.Allowed.{class_of}
use Rattle.mode_policy.specs.Statements.{class_said}
use Rattle.mode_policy.specs.Stating.{Appends}
use Rattle.mode_policy.proofs.table.ModeTable.state_classes.Given as goal

abbrev pub invariant-loop-who : goal.invariant-loop-who
invariant-loop-who l = Appends l.fn.on.from l.fn.on.to (map (λ (who : List ℕ). class_said l.f.node who (class_of l.self l.f who)) (take l.who-index l.self.who)) l.fn.out (Ok tt) l.out
