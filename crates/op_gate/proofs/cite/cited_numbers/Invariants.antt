-- The numbers of the cites so far.
use Rattle.std.proofs.Common.{◌≡◌, take}
use Rattle.access_history.specs.Citing.{numbers_of}
use Rattle.op_gate.proofs.cite.cited_numbers.Given as goal

abbrev pub invariant-loop-cite : goal.invariant-loop-cite
invariant-loop-cite l = l.numbers ≡ numbers_of (take l.cite-index l.cites)
