use Rattle.std.proofs.Common.{◌≡◌, ◌≤◌, ◌-◌, length}
use Rattle.follow_run.proofs.EndLemmas.{IsReading}
use Rattle.follow_run.proofs.following.read_pieces.Given as goal

abbrev pub invariant-loop-taken : goal.invariant-loop-taken
invariant-loop-taken g l = record {
  reading : IsReading g.D.Disk.clock g.D.Disk.left_since g.D.Disk.image g.D.Disk.faults l.fn.store (record { left = g.I.Source.left l.fn.input; read_faults = g.I.Source.faults l.fn.input; held = g.O.Sink.held l.fn.output; write_faults = g.O.Sink.faults l.fn.output }) l.store l.reader (g.I.Source.left l.input) (g.O.Sink.held l.output) l.taken;
  within : l.taken ≤ 1073741824;
  room : length l.piece.items ≡ 65536;
  read_steady : g.I.Source.faults l.input ≡ g.I.Source.faults l.fn.input;
  write_steady : g.O.Sink.faults l.output ≡ g.O.Sink.faults l.fn.output;
  write_never_falls : g.O.Sink.faults l.fn.output ≤ g.O.Sink.faults l.output;
}

abbrev pub decreases-loop-taken : goal.decreases-loop-taken
decreases-loop-taken g l = 1073741824 - l.taken
