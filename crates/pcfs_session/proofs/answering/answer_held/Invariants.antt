use Rattle.std.proofs.Common.{◌≡◌, ◌≤◌, ◌-◌, length}
use Rattle.pcfs_session.proofs.AnsweredLemmas.{IsAnswering}
use Rattle.pcfs_session.proofs.answering.answer_held.Given as goal

abbrev pub invariant-loop-line : goal.invariant-loop-line
invariant-loop-line g l = record {
  so_far : IsAnswering g.D.Disk.clock g.D.Disk.left_since g.D.Disk.image g.D.Disk.faults l.fn.framer.left l.fn.interpreter (g.O.Sink.held l.fn.output) l.fn.collected l.interpreter l.framer.left (g.O.Sink.held l.output) l.collected;
  few : length l.collected ≤ l.fn.enough - 1;
  long_stays : l.framer.is_long ≡ l.fn.framer.is_long;
  steady : g.O.Sink.faults l.output ≡ g.O.Sink.faults l.fn.output;
  never_falls : g.O.Sink.faults l.fn.output ≤ g.O.Sink.faults l.output;
}

abbrev pub decreases-loop-line : goal.decreases-loop-line
decreases-loop-line g l = length l.framer.left
