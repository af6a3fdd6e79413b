-- The best so far is enough.
use Rattle.std.specs.Prelude.{IfSome}
use Rattle.proof_search.specs.Answers.{IsEnough}
use Rattle.proof_search.proofs.missing.nearest.Given as goal

abbrev pub invariant-loop : goal.invariant-loop
invariant-loop l = IfSome l.best (IsEnough l.statements l.asked)
