-- The messages are those of the clock that was given, which the service has.
use Rattle.std.proofs.Common.{subst}
use Rattle.pcfs_server.specs.Ends.{number_of}
use Rattle.session_service.specs.Connections.{AreOfConnections}
use Rattle.session_service.specs.Conversation.{tells_of}
use Rattle.nine_service.specs.Passes.{nine_sources_of, AreOfSeenNine}
use Rattle.pcfs_run.proofs.nine_serving.serve_under.Goals as goal

pub returns-clause-of_connections : goal.returns-clause-of_connections
returns-clause-of_connections g c =
    subst (λ clock. AreOfConnections (AreOfSeenNine (nine_sources_of (g.C.TurnClock.gives clock) (tells_of g.L.In.Source.left g.L.In.Source.faults g.L.In.Source.broken g.L.Out.Sink.held g.L.Out.Sink.faults g.L.Out.Sink.broken) (g.L.Listener.queue c.args.net.now) (g.N.Nonces.coming c.args.nonces.now)) c.attend_all-end.new.front.door.seen) (number_of c.attend_all-end.result) c.attend_all-end.new.front.door.retired)
    c.new-service.ensures.clock c.attend_all-end.ensures.of_connections
