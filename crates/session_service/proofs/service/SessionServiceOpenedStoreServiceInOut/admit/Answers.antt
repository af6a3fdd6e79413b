-- The pass that is made has the nonce of its number.
use Rattle.std.proofs.Common.{◌≡◌, ◌∙◌, ◌*◌, refl, sym, ap, subst}
use Rattle.tree_lock.specs.Seen.{DoormanView}
use Rattle.pcfs_ports.specs.Telling.{AreTakenOff}
use Rattle.session_service.specs.Connections.{AreOfConnections}
use Rattle.session_service.specs.Sessions.{sources_of, AreOfSeenSession}
use Rattle.session_service.specs.Conversation.{tells_of}
use Rattle.session_service.proofs.SourceLemmas.{nonce_more, nonce_none, nonce_of}
use Rattle.session_service.proofs.service.SessionServiceOpenedStoreServiceInOut.admit.Goals as goal

pub returns-in-Ok-clause-belongs : goal.returns-in-Ok-clause-belongs
returns-in-Ok-clause-belongs g c =
    let service = c.args.self.now in
    let first = g.N.Nonces.coming service.nonces.value in
    let old = c.args.door.now in
    let sources = sources_of (g.C.TurnClock.gives service.clock.now) (tells_of g.L.In.Source.left g.L.In.Source.faults g.L.In.Source.broken g.L.Out.Sink.held g.L.Out.Sink.faults g.L.Out.Sink.broken) (g.L.Listener.queue service.net.value) first in
    subst (λ (door : DoormanView _). (door.lock ≡ service.lock.now) × AreTakenOff (16 * door.made) first (g.N.Nonces.coming c.next.new.self) × AreOfConnections (AreOfSeenSession sources door.seen) old.served door.retired) (sym c.pass.ensures.door)
    (c.requires.belongs.0, nonce_more old.door.made first (g.N.Nonces.coming old.nonces.now) (g.N.Nonces.coming c.next.new.self) c.requires.belongs.1 c.in-Ok.ensures.coming, c.requires.belongs.2)

pub returns-in-Ok-clause-token : goal.returns-in-Ok-clause-token
returns-in-Ok-clause-token g c =
    let first = g.N.Nonces.coming c.args.self.now.nonces.value in
    let old = c.args.door.now in (
      (
        ap (λ p. p.lock) c.pass.ensures.pass,
        nonce_of old.door.made c.pass.result.number first (g.N.Nonces.coming old.nonces.now) c.in-Ok.nonce (ap (λ p. p.number) c.pass.ensures.pass) c.requires.belongs.1 c.in-Ok.ensures.sixteen c.in-Ok.ensures.first,
        (λ not. ap (λ p. p.own) c.pass.ensures.pass, λ is. absurd cc),
      ),
      refl,
    )

pub returns-in-Ok-clause-number : goal.returns-in-Ok-clause-number
returns-in-Ok-clause-number g c = ap (λ p. p.number) c.pass.ensures.pass ∙ sym (ap (λ d. d.made) c.pass.ensures.door)

pub returns-in-Err-clause-belongs : goal.returns-in-Err-clause-belongs
returns-in-Err-clause-belongs g c =
    let first = g.N.Nonces.coming c.args.self.now.nonces.value in
    let old = c.args.door.now in (
      c.requires.belongs.0,
      nonce_none (16 * old.door.made) first (g.N.Nonces.coming old.nonces.now) (g.N.Nonces.coming c.next.new.self) c.requires.belongs.1 c.in-Err.ensures.coming,
      c.requires.belongs.2,
    )
