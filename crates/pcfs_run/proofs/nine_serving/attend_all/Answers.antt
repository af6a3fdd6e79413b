-- Serving ends so, with the same nonces.
use Rattle.std.proofs.Common.{◌≡◌, ◌+◌, ℕ, ap, arith, subst, sym}
use denote.Exit.{no}
use Rattle.pcfs_server.specs.Ends.{number_of}
use Rattle.shared_store.specs.LockHistory.{lock_entries}
use Rattle.session_service.specs.Connections.{AreOfConnections}
use Rattle.pcfs_ports.specs.Telling.{IsAt}
use Rattle.session_service.specs.Conversation.{tells_of}
use Rattle.nine_service.specs.Passes.{nine_sources_of, AreOfSeenNine}
use denote.Param.Send.{param_send, param_sync, arg_send, arg_sync}
use Rattle.nine_service.proofs.service.NineToken.TheSendSync as token
use denote.Param.{param}
use Rattle.pcfs_run.proofs.SentLemmas.{opened_send, nine_sync}
use Rattle.session_service.proofs.SourceLemmas.{connection_of, nonce_first}
use Rattle.pcfs_run.proofs.PassLemmas.{nobody_yet}
use Rattle.pcfs_run.proofs.ServedLemmas.{one_of_two}
use Rattle.pcfs_run.proofs.nine_serving.attend_all.Goals as goal

pub serve_conns-requires-send-H-Token : goal.serve_conns-requires-send-H-Token
serve_conns-requires-send-H-Token g c κs lives = param_send 6 _ (arg_send _ no _ (token.the_send _ _ (record { entries = lock_entries }) (opened_send (param 1 g.row.D) g.D.Disk c.type_bounds.send-D)))

pub serve_conns-requires-sync-H : goal.serve_conns-requires-sync-H
serve_conns-requires-sync-H g c κs lives = param_sync _ _ (arg_sync _ no _ (nine_sync _ _ _ (param 4 g.row.N) (param 3 g.row.L) _ _ (opened_send _ g.D.Disk c.type_bounds.send-D) c.type_bounds.sync-C))

pub serve_conns-requires-clause-belongs : goal.serve_conns-requires-clause-belongs
serve_conns-requires-clause-belongs g c κs within = (
  c.requires.lock,
  nonce_first c.args.front.now.door.made (g.N.Nonces.coming c.args.service.now.nonces.value) (g.N.Nonces.coming c.args.front.now.nonces.now) c.requires.unmade (ap g.N.Nonces.coming c.requires.nonces),
  nobody_yet _ c.args.front.now.served c.args.front.now.door.retired c.requires.unserved c.requires.none,
)

pub serve_conns-requires-clause-expected : goal.serve_conns-requires-clause-expected
serve_conns-requires-clause-expected g c κs within = λ place input output at.
    let number : c.args.front.now.door.made + place + 1 ≡ place + 1 = omega (arith, c.requires.unmade) in
    connection_of (g.L.Listener.queue c.args.service.now.net.value) place (c.args.front.now.door.made + place + 1) input output number
    (subst (λ net. IsAt (g.L.Listener.queue net) place input output) (sym c.requires.net) at)

pub returns-clause-same_reference : goal.returns-clause-same_reference
returns-clause-same_reference g c = ap (λ k. k.1) c.serve_conns.ensures.kept

pub returns-clause-opening : goal.returns-clause-opening
returns-clause-opening g c = ap (λ k. k.0) c.serve_conns.ensures.kept

pub returns-clause-every : goal.returns-clause-every
returns-clause-every g c = omega (arith, c.serve_conns.ensures.admitted, c.requires.unmade)

pub returns-clause-attended : goal.returns-clause-attended
returns-clause-attended g c = record {
  taken = c.serve_conns.ensures.taken;
  cause = c.serve_conns.ensures.cause;
  risen = c.serve_conns.ensures.risen;
  one_failed = λ failed. one_of_two (c.serve_conns.ensures.one_failed failed);
  faults_stay = c.serve_conns.ensures.listener_steady;
  nonce_faults_stay = c.serve_conns.ensures.door_steady;
}

pub returns-clause-of_connections : goal.returns-clause-of_connections
returns-clause-of_connections g c =
    let gives = g.C.TurnClock.gives c.args.service.now.clock.now in
    let tells = (tells_of g.L.In.Source.left g.L.In.Source.faults g.L.In.Source.broken g.L.Out.Sink.held g.L.Out.Sink.faults g.L.Out.Sink.broken) in
    let all : c.serve_conns.new.door.served ≡ number_of c.serve_conns.result = omega (arith, c.serve_conns.ensures.served, c.requires.unserved) in
    subst (λ (n : ℕ). AreOfConnections (AreOfSeenNine (nine_sources_of gives tells (g.L.Listener.queue c.args.net.now) (g.N.Nonces.coming c.args.front.now.nonces.now)) c.serve_conns.new.door.door.seen) n c.serve_conns.new.door.door.retired) all
    (subst (λ net. AreOfConnections (AreOfSeenNine (nine_sources_of gives tells (g.L.Listener.queue net) (g.N.Nonces.coming c.args.front.now.nonces.now)) c.serve_conns.new.door.door.seen) c.serve_conns.new.door.served c.serve_conns.new.door.door.retired) c.requires.net
    (subst (λ nonces. AreOfConnections (AreOfSeenNine (nine_sources_of gives tells (g.L.Listener.queue c.args.service.now.net.value) (g.N.Nonces.coming nonces)) c.serve_conns.new.door.door.seen) c.serve_conns.new.door.served c.serve_conns.new.door.door.retired) c.requires.nonces
    c.serve_conns.ensures.belongs.2))
