use Rattle.std.proofs.Common.{◌++◌}
use Rattle.session_service.specs.Sessions.{sources_of}
use Rattle.session_service.specs.Conversation.{tells_of}
use Rattle.pcfs_run.proofs.UnsaidLemmas.{merged_none, all_without}
use Rattle.pcfs_run.proofs.laws.nothing_is_added_unsaid.Goals as goal

pub returns : goal.returns
returns g c = λ queue nonces none_said root first attended count added of.
    merged_none _ added of.merged (all_without (sources_of (g.C.TurnClock.gives c.args.clock.now) (tells_of g.L.In.Source.left g.L.In.Source.faults g.L.In.Source.broken g.L.Out.Sink.held g.L.Out.Sink.faults g.L.Out.Sink.broken) queue nonces) none_said root (first ++ added) attended of.passes of.of_connections)
