use Rattle.std.proofs.Common.{IfSome}
use Rattle.condition_set.specs.Window.{MeetsConditions}
use Rattle.client_tree.proofs.rights.held.Given as goal

abbrev pub invariant-loop-one : goal.invariant-loop-one
invariant-loop-one g l = IfSome l.best (λ one. MeetsConditions one.now.procap.grant.times l.second)
