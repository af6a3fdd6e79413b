use Rattle.std.proofs.Common.{◌++◌}
use Rattle.session_service.specs.Conversation.{tells_of}
use Rattle.nine_service.specs.Passes.{nine_sources_of}
use Rattle.pcfs_run.specs.NineLaws.{HasMessage}
use Rattle.pcfs_run.proofs.AskedLemmas.{merged_all}
use Rattle.pcfs_run.proofs.NineLawLemmas.{each_with_message}
use Rattle.pcfs_run.proofs.nine_laws.each_entry_has_its_message.Goals as goal

pub returns : goal.returns
returns g c = λ queue nonces root first attended count added of.
    merged_all (HasMessage (nine_sources_of (g.C.TurnClock.gives c.args.clock.now) (tells_of g.L.In.Source.left g.L.In.Source.faults g.L.In.Source.broken g.L.Out.Sink.held g.L.Out.Sink.faults g.L.Out.Sink.broken) queue nonces) root (first ++ added)) _ added of.merged
    (each_with_message (nine_sources_of (g.C.TurnClock.gives c.args.clock.now) (tells_of g.L.In.Source.left g.L.In.Source.faults g.L.In.Source.broken g.L.Out.Sink.held g.L.Out.Sink.faults g.L.Out.Sink.broken) queue nonces) root (first ++ added) attended of.passes of.own of.of_connections)
