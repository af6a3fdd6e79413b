-- The rows of the events so far are written or on their way.
use Rattle.std.proofs.Common.{◌≡◌, ◌≤◌, take}
use Rattle.pcfs_history.specs.Outbox.{GoesOut}
use Rattle.pcfs_history.specs.Written.{table_text}
use Rattle.pcfs_history.proofs.writing.write_history.Given as goal

abbrev pub invariant-loop-place : goal.invariant-loop-place
invariant-loop-place g l = record {
  out : GoesOut (g.O.Sink.held l.fn.output) (table_text l.json l.filter l.history.base (take l.place l.history.events)) (g.O.Sink.held l.output) l.made;
  at : l.cursor ≡ record { history = l.history; passed = l.place };
  never_falls : g.O.Sink.faults l.fn.output ≤ g.O.Sink.faults l.output;
}
