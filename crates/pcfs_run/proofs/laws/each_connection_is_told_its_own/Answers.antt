use Rattle.std.proofs.Common.{ℕ, List, ◌++◌, Some}
use Rattle.pcfs_store.specs.Entries.{StoreEntry}
use Rattle.session_service.specs.Sessions.{sources_of, AreOfSession}
use Rattle.session_service.specs.Conversation.{tells_of}
use Rattle.session_service.proofs.ConnectionLemmas.{AreOfConnections-all}
use Rattle.pcfs_run.proofs.ToldLemmas.{each_told}
use Rattle.pcfs_run.proofs.laws.each_connection_is_told_its_own.Goals as goal

pub returns : goal.returns
returns g c = λ connections nonces root first attended count added of.
    let gives = g.C.TurnClock.gives c.args.clock.now in
    let tells = (tells_of g.L.In.Source.left g.L.In.Source.faults g.L.In.Source.broken g.L.Out.Sink.held g.L.Out.Sink.faults g.L.Out.Sink.broken) in
    each_told gives tells connections nonces (first ++ added) root of.passes
    (AreOfConnections-all (λ (number : ℕ) (own : List StoreEntry). AreOfSession (sources_of gives tells (Some connections) nonces) (record { root = root; number = number }) (first ++ added) own) attended of.passes of.of_connections of.every)
