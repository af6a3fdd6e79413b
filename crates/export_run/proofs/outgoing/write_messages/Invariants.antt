-- The messages of the events so far are on their way.
use Rattle.std.proofs.Common.{◌≡◌, ◌+◌, take}
use Rattle.export_run.specs.Exported.{messages_of}
use Rattle.export_run.proofs.ExportLemmas.{AreGoingOut}
use Rattle.export_run.proofs.outgoing.write_messages.Given as goal

abbrev pub invariant-loop-event : goal.invariant-loop-event
invariant-loop-event g l = record {
  going : AreGoingOut (g.O.Sink.held l.fn.output) (messages_of l.first (take l.event-index l.events)) (g.O.Sink.held l.output) l.collected;
  numbered : l.number ≡ l.first + l.event-index;
  steady : g.O.Sink.faults l.output ≡ g.O.Sink.faults l.fn.output;
}
