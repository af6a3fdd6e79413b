-- A token leaves: its pass was taken in, and its connection is counted if it was attended. The doorman has seen what the pass had seen.
use Rattle.std.proofs.Common.{◌∙◌, ◌*◌, ℕ, ap, arith, length, subst, sym}
use Rattle.tree_lock.specs.Seen.{PassView}
use Rattle.pcfs_ports.specs.Telling.{AreTakenOff}
use Rattle.session_service.specs.Conversation.{tells_of}
use Rattle.nine_service.specs.Passes.{nine_sources_of, AreOfSeenNine}
use Rattle.session_service.proofs.ConnectionLemmas.{AreOfConnections-also, AreOfConnections-one_more, connections-le}
use Rattle.nine_service.proofs.PassLemmas.{AreOfSeenNine-later}
use Rattle.nine_service.proofs.service.NineServiceOpenedStoreServiceInOut.leave.Goals as goal

pub served_after-door-requires-clause-fewer : goal.served_after-door-requires-clause-fewer
served_after-door-requires-clause-fewer g c =
    let sources = nine_sources_of (g.C.TurnClock.gives c.args.self.now.clock.now) (tells_of g.L.In.Source.left g.L.In.Source.faults g.L.In.Source.broken g.L.Out.Sink.held g.L.Out.Sink.faults g.L.Out.Sink.broken) (g.L.Listener.queue c.args.self.now.net.value) (g.N.Nonces.coming c.args.self.now.nonces.value) in
    let within = connections-le (AreOfSeenNine sources c.args.door.now.door.seen) c.args.door.now.served c.args.door.now.door.retired c.requires.door.2 in
    let one_more = ap length c.retire.ensures.retired in
    omega (arith, within, one_more)

pub returns-clause-belongs : goal.returns-clause-belongs
returns-clause-belongs g c =
    let sources = nine_sources_of (g.C.TurnClock.gives c.args.self.now.clock.now) (tells_of g.L.In.Source.left g.L.In.Source.faults g.L.In.Source.broken g.L.Out.Sink.held g.L.Out.Sink.faults g.L.Out.Sink.broken) (g.L.Listener.queue c.args.self.now.net.value) (g.N.Nonces.coming c.args.self.now.nonces.value) in
    let pass = c.into_pass-pass.result.0 in
    let before = c.args.door.now.door in
    let after = c.retire.new.door in (
      c.retire.ensures.lock ∙ c.requires.door.0,
      subst (λ (made : ℕ). AreTakenOff (16 * made) (g.N.Nonces.coming c.args.self.now.nonces.value) (g.N.Nonces.coming c.args.door.now.nonces.now)) (sym c.retire.ensures.made) c.requires.door.1,
      AreOfConnections-one_more (AreOfSeenNine sources after.seen) c.into_pass-pass.result.1 c.args.door.now.served c.served_after-door.result pass.number pass.own before.retired after.retired c.served_after-door.ensures c.retire.ensures.retired
          (λ not. ap (λ p. p.own) c.into_pass-pass.ensures.0 ∙ c.requires.token.2.0 (sym c.into_pass-pass.ensures.1 ∙ not))
          (λ is.
          AreOfSeenNine-later sources pass.seen after.seen pass.number pass.own c.retire.ensures.told
          (subst (λ (p : PassView _). AreOfSeenNine sources p.seen p.number p.own) (sym c.into_pass-pass.ensures.0) (c.requires.token.2.1 (sym c.into_pass-pass.ensures.1 ∙ is))))
          (AreOfConnections-also (AreOfSeenNine sources before.seen) (AreOfSeenNine sources after.seen) (λ number own. AreOfSeenNine-later sources before.seen after.seen number own c.retire.ensures.seen) c.args.door.now.served before.retired c.requires.door.2),
    )
