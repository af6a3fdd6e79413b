-- The connection has the session that was held, and its pass the entries of that session.
use Rattle.std.proofs.Common.{ℕ, subst, sym}
use Rattle.pcfs_session.specs.Streams.{Streams}
use Rattle.session_service.specs.Sessions.{sources_of, IsNonceOf}
use Rattle.session_service.specs.Conversation.{tells_of}
use Rattle.session_service.proofs.SessionLemmas.{AreOfSeenSession-ended, number_ended}
use Rattle.session_service.proofs.SourceLemmas.{input_of}
use Rattle.session_service.proofs.service.SessionServiceOpenedStoreServiceInOut.attend.Goals as goal

pub returns-clause-belongs : goal.returns-clause-belongs
returns-clause-belongs g c =
    let service = c.args.self.now in
    let nonces = g.N.Nonces.coming service.nonces.value in
    let sources = sources_of (g.C.TurnClock.gives service.clock.now) (tells_of g.L.In.Source.left g.L.In.Source.faults g.L.In.Source.broken g.L.Out.Sink.held g.L.Out.Sink.faults g.L.Out.Sink.broken) (g.L.Listener.queue service.net.value) nonces in
    let before : Streams = record { left = g.L.In.Source.left c.args.input; read_faults = g.L.In.Source.faults c.args.input; held = g.L.Out.Sink.held c.args.output; write_faults = g.L.Out.Sink.faults c.args.output } in
    let after : Streams = record { left = g.L.In.Source.left c.serve_session.new.input; read_faults = g.L.In.Source.faults c.serve_session.new.input; held = g.L.Out.Sink.held c.serve_session.new.output; write_faults = g.L.Out.Sink.faults c.serve_session.new.output } in (
      c.serve_session.ensures.same_lock,
      subst (λ (n : ℕ). IsNonceOf nonces n c.args.token.now.nonce) (sym (number_ended g.D.Disk.faults sources c.args.token.now.nonce c.args.token.now.pass _ before _ _ c.serve_session.ensures.ends)) c.requires.belongs.1,
      (
        λ not. absurd cc,
        λ is.
            AreOfSeenSession-ended g.D.Disk.faults sources c.args.token.now.nonce c.args.token.now.pass _ before c.serve_session.result after (c.requires.belongs.2.0 c.requires.once)
            (λ lines first. record {
              nonce_is = c.requires.belongs.1;
              input = c.args.input;
              accepted = input_of g.L.In.Source.left (g.L.Listener.queue service.net.value) c.args.token.now.pass.number c.args.input c.args.output c.requires.expected;
              first = first;
            })
            (λ lines answers ends. record {
              input = c.args.input;
              output = c.args.output;
              accepted = c.requires.expected;
              how = c.serve_session.result;
              input_after = c.serve_session.new.input;
              output_after = c.serve_session.new.output;
              ends = ends;
              greets_first = c.serve_session.ensures.greets_first;
              nothing_failed = c.serve_session.ensures.steady;
              read_failed = c.serve_session.ensures.read_failed;
              write_failed = c.serve_session.ensures.write_failed;
            }) c.serve_session.ensures.ends,
      ),
    )

pub returns-clause-session : goal.returns-clause-session
returns-clause-session g c =
    rw (c.new.ensures.input, c.new.ensures.output)
    (c.serve_session.result, c.serve_session.ensures.ends, c.serve_session.ensures.steady, c.serve_session.ensures.read_failed, c.serve_session.ensures.write_failed)

pub returns-clause-greets_first : goal.returns-clause-greets_first
returns-clause-greets_first g c = rw (c.new.ensures.input, c.new.ensures.output) c.serve_session.ensures.greets_first
