-- The statements of the numbers so far.
use Rattle.std.proofs.Common.{take}
use Rattle.proof_search.specs.Proved.{AreAmong}
use Rattle.proof_search.proofs.cited.cites_under.Given as goal

abbrev pub invariant-loop-number : goal.invariant-loop-number
invariant-loop-number l = AreAmong l.statements (take l.number-index l.numbers) l.cites.items
