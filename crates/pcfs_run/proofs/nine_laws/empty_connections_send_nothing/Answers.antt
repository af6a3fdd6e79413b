use Rattle.std.proofs.Common.{◌++◌, Some}
use Rattle.session_service.specs.Conversation.{tells_of}
use Rattle.nine_service.specs.Passes.{nine_sources_of}
use Rattle.pcfs_run.proofs.UnsaidLemmas.{merged_none}
use Rattle.pcfs_run.proofs.NineLawLemmas.{all_unsent, none_sent_of_empty}
use Rattle.pcfs_run.proofs.nine_laws.empty_connections_send_nothing.Goals as goal

pub returns : goal.returns
returns g c = λ connections nonces empty root first attended count added of.
    merged_none _ added of.merged (all_unsent (nine_sources_of (g.C.TurnClock.gives c.args.clock.now) (tells_of g.L.In.Source.left g.L.In.Source.faults g.L.In.Source.broken g.L.Out.Sink.held g.L.Out.Sink.faults g.L.Out.Sink.broken) (Some connections) nonces)
    (λ number nonce messages sends. none_sent_of_empty g.L.In.Source.left connections nonces number nonce messages empty sends) root (first ++ added) attended of.passes of.of_connections)
