use Rattle.std.proofs.Common.{◌++◌, Some}
use Rattle.session_service.specs.Sessions.{sources_of}
use Rattle.session_service.specs.Conversation.{tells_of}
use Rattle.pcfs_run.proofs.UnsaidLemmas.{merged_none, all_without, none_said_of_empty}
use Rattle.pcfs_run.proofs.laws.empty_connections_add_nothing.Goals as goal

pub returns : goal.returns
returns g c = λ connections nonces empty root first attended count added of.
    merged_none _ added of.merged (all_without (sources_of (g.C.TurnClock.gives c.args.clock.now) (tells_of g.L.In.Source.left g.L.In.Source.faults g.L.In.Source.broken g.L.Out.Sink.held g.L.Out.Sink.faults g.L.Out.Sink.broken) (Some connections) nonces)
    (λ number nonce lines says. none_said_of_empty g.L.In.Source.left connections nonces number nonce lines empty says) root (first ++ added) attended of.passes of.of_connections)
