-- What was added so far.
use Rattle.proof_search.specs.Answers.{HasAdded}
use Rattle.proof_search.proofs.missing.add_missing.Given as goal

abbrev pub invariant-loop-wanted : goal.invariant-loop-wanted
invariant-loop-wanted l = HasAdded l.fn.all.items l.all.items
