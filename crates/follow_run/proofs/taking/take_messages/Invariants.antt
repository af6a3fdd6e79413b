use Rattle.std.proofs.Common.{◌≡◌, ◌+◌, ◌≤◌, length}
use Rattle.bl_syntax.specs.Codec.{AreBytes}
use Rattle.follow_run.proofs.AnsweredLemmas.{IsTaking}
use Rattle.follow_run.proofs.taking.take_messages.Given as goal

abbrev pub invariant-messages : goal.invariant-messages
invariant-messages g l = record {
  so_far : IsTaking g.D.Disk.clock g.D.Disk.left_since g.D.Disk.image g.D.Disk.faults l.fn.reader.left l.fn.store (g.O.Sink.held l.fn.output) l.store l.reader.left (g.O.Sink.held l.output);
  bytes : AreBytes l.reader.left;
  as_many : l.reader.place + length l.reader.left ≡ l.fn.reader.place + length l.fn.reader.left;
  never_falls : g.O.Sink.faults l.fn.output ≤ g.O.Sink.faults l.output;
  steady : g.O.Sink.faults l.output ≡ g.O.Sink.faults l.fn.output;
}

abbrev pub decreases-messages : goal.decreases-messages
decreases-messages g l = length l.reader.left
