use Rattle.std.proofs.Common.{length, ◌-◌, ◌≡◌, ◌≤◌}
use Rattle.pcfs_ports.specs.Observable.{with_front}
use Rattle.pcfs_ports.specs.declared.streams.TheConstants.{INPUT_LIMIT}
use Rattle.pcfs_ports.proofs.streams.read_to_end.Given as goal

abbrev pub invariant-loop-input : goal.invariant-loop-input
invariant-loop-input g l = record {
  limit : length l.bytes ≤ INPUT_LIMIT;
  room : length l.piece.items ≡ 65536;
  moved : g.I.Source.left l.fn.input ≡ with_front l.bytes (g.I.Source.left l.input);
  never_falls : g.I.Source.faults l.fn.input ≤ g.I.Source.faults l.input;
  steady : g.I.Source.faults l.input ≡ g.I.Source.faults l.fn.input;
}

abbrev pub decreases-loop-input : goal.decreases-loop-input
decreases-loop-input g l = INPUT_LIMIT - length l.bytes
