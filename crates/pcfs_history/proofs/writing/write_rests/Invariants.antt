-- The texts of the issues so far are on their way.
use Rattle.std.proofs.Common.{◌≤◌, take}
use Rattle.access_history.specs.History.{state_of}
use Rattle.pcfs_history.specs.Outbox.{GoesOut}
use Rattle.pcfs_history.specs.Written.{rests_text}
use Rattle.pcfs_history.proofs.writing.write_rests.Given as goal

abbrev pub invariant-loop-rest : goal.invariant-loop-rest
invariant-loop-rest g l = record {
  out : GoesOut (g.O.Sink.held l.fn.output) (rests_text l.json (state_of l.history) (take l.rest-index l.rests)) (g.O.Sink.held l.output) l.made;
  never_falls : g.O.Sink.faults l.fn.output ≤ g.O.Sink.faults l.output;
}
