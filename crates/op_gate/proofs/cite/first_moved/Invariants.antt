-- Each statement so far stands under its number.
use Rattle.std.proofs.Common.{take}
use Rattle.std.specs.List.{AllByRecursion}
use Rattle.access_history.specs.Books.{live_book}
use Rattle.access_history.specs.Citing.{StandsUnderNumber}
use Rattle.op_gate.proofs.cite.first_moved.Given as goal

abbrev pub invariant-loop-cite : goal.invariant-loop-cite
invariant-loop-cite l = AllByRecursion (StandsUnderNumber (live_book l.entries)) (take l.cite-index l.cites)
