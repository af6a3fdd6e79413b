-- The statements of the numbers so far.
use Rattle.std.proofs.Common.{take}
use Rattle.access_history.specs.Citing.{AreFound}
use Rattle.op_gate.specs.Citations.{book_among}
use Rattle.op_gate.proofs.cite.cite.Given as goal

abbrev pub invariant-loop-number : goal.invariant-loop-number
invariant-loop-number l = AreFound (book_among l.among l.entries) (take l.number-index l.numbers) l.cites.items
