-- The texts of the issues so far are on their way.
use Rattle.std.proofs.Common.{◌≤◌, take}
use Rattle.access_history.specs.History.{state_of}
use Rattle.pcfs_history.specs.Outbox.{GoesOut}
use Rattle.pcfs_history.specs.Written.{admitting_texts}
use Rattle.pcfs_history.proofs.writing.write_numbers.Given as goal

abbrev pub invariant-loop-number : goal.invariant-loop-number
invariant-loop-number g l = record {
  out : GoesOut (g.O.Sink.held l.fn.output) (admitting_texts l.json (state_of l.history) (take l.number-index l.numbers)) (g.O.Sink.held l.output) l.made;
  never_falls : g.O.Sink.faults l.fn.output ≤ g.O.Sink.faults l.output;
}
