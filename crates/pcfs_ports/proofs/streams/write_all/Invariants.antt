use Rattle.std.proofs.Common.{length, take, ◌-◌, ◌≡◌, ◌≤◌}
use Rattle.pcfs_ports.specs.Observable.{with_back}
use Rattle.pcfs_ports.proofs.streams.write_all.Given as goal

abbrev pub invariant-loop-at : goal.invariant-loop-at
invariant-loop-at g l = record {
  within : l.at ≤ length l.bytes;
  held : g.O.Sink.held l.output ≡ with_back (g.O.Sink.held l.initial.output) (take l.at l.bytes);
  steady : g.O.Sink.faults l.output ≡ g.O.Sink.faults l.initial.output;
  never_falls : g.O.Sink.faults l.initial.output ≤ g.O.Sink.faults l.output;
}

abbrev pub decreases-loop-at : goal.decreases-loop-at
decreases-loop-at g l = length l.bytes - l.at
