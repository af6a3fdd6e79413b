-- The best so far is proved.
use Rattle.proof_search.specs.Proved.{IsProved}
use Rattle.proof_search.proofs.searching.fewest.Given as goal

abbrev pub invariant-loop : goal.invariant-loop
invariant-loop l = IsProved l.statements l.asked l.best
