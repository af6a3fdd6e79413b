-- The store is put under a lock, and comes back out of it.
use Rattle.std.proofs.Common.{◌∙◌, ap, refl, subst, sym}
use Rattle.pcfs_store.specs.StoreView.{StoreView}
use Rattle.pcfs_server.specs.Ends.{number_of}
use Rattle.shared_store.specs.OpenedView.{OpenedView}
use Rattle.shared_store.specs.LockHistory.{lock_entries}
use Rattle.session_service.specs.Sessions.{sources_of, AreOfSession, AreOfSeenSession}
use Rattle.session_service.specs.Conversation.{tells_of}
use Rattle.pcfs_run.specs.Passes.{IsGrown}
use Rattle.pcfs_run.proofs.PassLemmas.{in_whole, IsGrown-closed, IsGrown-none}
use Rattle.pcfs_run.proofs.ServedLemmas.{AreAttended-none}
use Rattle.pcfs_run.proofs.serving.serve_store.Goals as goal

pub returns-in-Ok-clause-grown : goal.returns-in-Ok-clause-grown
returns-in-Ok-clause-grown g c =
    subst (λ (s : StoreView _). IsGrown (AreOfSession (sources_of (g.C.TurnClock.gives c.args.clock.now) (tells_of g.L.In.Source.left g.L.In.Source.faults g.L.In.Source.broken g.L.Out.Sink.held g.L.Out.Sink.faults g.L.Out.Sink.broken) (g.L.Listener.queue c.args.net.now) (g.N.Nonces.coming c.args.nonces.now))) (number_of c.serve_under-end.result.0) c.args.count c.args.store s) (sym c.into_store.ensures.same)
    (IsGrown-closed _ (AreOfSeenSession (sources_of (g.C.TurnClock.gives c.args.clock.now) (tells_of g.L.In.Source.left g.L.In.Source.faults g.L.In.Source.broken g.L.Out.Sink.held g.L.Out.Sink.faults g.L.Out.Sink.broken) (g.L.Listener.queue c.args.net.now) (g.N.Nonces.coming c.args.nonces.now)) c.serve_under-end.result.1.seen) (record { store = c.args.store; opening = c.args.store }) c.close-closed.result c.serve_under-end.result.1 (number_of c.serve_under-end.result.0) c.args.count refl
    (c.serve_under-end.ensures.opening ∙ ap (λ d. d.opening) c.in-Ok.ensures.ok ∙ ap lock_entries c.new-opened.ensures.opened)
    c.close-closed.ensures (λ number own same begins. in_whole _ _ _ _ _ same begins number own) c.serve_under-end.ensures.of_connections c.serve_under-end.ensures.every c.serve_under-end.ensures.made)

pub returns-in-Err-clause-grown : goal.returns-in-Err-clause-grown
returns-in-Err-clause-grown g c =
    subst (λ (s : StoreView _). IsGrown (AreOfSession (sources_of (g.C.TurnClock.gives c.args.clock.now) (tells_of g.L.In.Source.left g.L.In.Source.faults g.L.In.Source.broken g.L.Out.Sink.held g.L.Out.Sink.faults g.L.Out.Sink.broken) (g.L.Listener.queue c.args.net.now) (g.N.Nonces.coming c.args.nonces.now))) 0 c.args.count c.args.store s) (sym (c.into_store-in-Err.ensures.same ∙ ap (λ (o : OpenedView _). o.store) (c.in-Err.ensures.err ∙ c.new-opened.ensures.opened)))
    (IsGrown-none _ c.args.store c.args.count)

pub returns-in-Err-clause-attended : goal.returns-in-Err-clause-attended
returns-in-Err-clause-attended g c = AreAttended-none c.args.count _ c.requires.some
