use Rattle.std.proofs.Common.{◌++◌}
use Rattle.session_service.specs.Sessions.{sources_of}
use Rattle.session_service.specs.Conversation.{tells_of}
use Rattle.pcfs_run.specs.Laws.{HasLine}
use Rattle.pcfs_run.proofs.AskedLemmas.{merged_all, each_with_line}
use Rattle.pcfs_run.proofs.laws.each_entry_has_its_line.Goals as goal

pub returns : goal.returns
returns g c = λ queue nonces root first attended count added of.
    merged_all (HasLine (sources_of (g.C.TurnClock.gives c.args.clock.now) (tells_of g.L.In.Source.left g.L.In.Source.faults g.L.In.Source.broken g.L.Out.Sink.held g.L.Out.Sink.faults g.L.Out.Sink.broken) queue nonces) root (first ++ added)) _ added of.merged
    (each_with_line (sources_of (g.C.TurnClock.gives c.args.clock.now) (tells_of g.L.In.Source.left g.L.In.Source.faults g.L.In.Source.broken g.L.Out.Sink.held g.L.Out.Sink.faults g.L.Out.Sink.broken) queue nonces) root (first ++ added) attended of.passes of.own of.of_connections)
