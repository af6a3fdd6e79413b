use Rattle.std.proofs.Common.{◌++◌}
use Rattle.session_service.specs.Conversation.{tells_of}
use Rattle.nine_service.specs.Passes.{nine_sources_of}
use Rattle.pcfs_run.proofs.UnsaidLemmas.{merged_none}
use Rattle.pcfs_run.proofs.NineLawLemmas.{all_unsent}
use Rattle.pcfs_run.proofs.nine_laws.nothing_is_added_unsent.Goals as goal

pub returns : goal.returns
returns g c = λ queue nonces none_sent root first attended count added of.
    merged_none _ added of.merged (all_unsent (nine_sources_of (g.C.TurnClock.gives c.args.clock.now) (tells_of g.L.In.Source.left g.L.In.Source.faults g.L.In.Source.broken g.L.Out.Sink.held g.L.Out.Sink.faults g.L.Out.Sink.broken) queue nonces) none_sent root (first ++ added) attended of.passes of.of_connections)
