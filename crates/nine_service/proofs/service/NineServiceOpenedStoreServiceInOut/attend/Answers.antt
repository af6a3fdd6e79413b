-- The connection was attended, and its pass has the entries that its messages were given.
use Rattle.std.proofs.Common.{ℕ, subst, sym}
use Rattle.pcfs_session.specs.Streams.{Streams}
use Rattle.session_service.specs.Sessions.{IsNonceOf}
use Rattle.session_service.specs.Conversation.{tells_of}
use Rattle.session_service.proofs.SourceLemmas.{input_of}
use Rattle.nine_service.specs.Passes.{nine_sources_of}
use Rattle.nine_service.proofs.PassLemmas.{AreOfSeenNine-ended, number_ended}
use Rattle.nine_service.proofs.service.NineServiceOpenedStoreServiceInOut.attend.Goals as goal

pub returns-clause-belongs : goal.returns-clause-belongs
returns-clause-belongs g c =
    let service = c.args.self.now in
    let nonces = g.N.Nonces.coming service.nonces.value in
    let sources = nine_sources_of (g.C.TurnClock.gives service.clock.now) (tells_of g.L.In.Source.left g.L.In.Source.faults g.L.In.Source.broken g.L.Out.Sink.held g.L.Out.Sink.faults g.L.Out.Sink.broken) (g.L.Listener.queue service.net.value) nonces in
    let before : Streams = record { left = g.L.In.Source.left c.args.input; read_faults = g.L.In.Source.faults c.args.input; held = g.L.Out.Sink.held c.args.output; write_faults = g.L.Out.Sink.faults c.args.output } in
    let after : Streams = record { left = g.L.In.Source.left c.serve_nine.new.input; read_faults = g.L.In.Source.faults c.serve_nine.new.input; held = g.L.Out.Sink.held c.serve_nine.new.output; write_faults = g.L.Out.Sink.faults c.serve_nine.new.output } in (
      c.serve_nine.ensures.same_lock,
      subst (λ (n : ℕ). IsNonceOf nonces n c.args.token.now.nonce) (sym (number_ended g.D.Disk.faults sources c.args.token.now.nonce c.args.token.now.pass _ before _ _ c.serve_nine.ensures.ends)) c.requires.belongs.1,
      (
        λ not. absurd cc,
        λ is.
            AreOfSeenNine-ended g.D.Disk.faults sources c.args.token.now.nonce c.args.token.now.pass _ before c.serve_nine.result after (c.requires.belongs.2.0 c.requires.once)
            (λ messages first. record {
              nonce_is = c.requires.belongs.1;
              input = c.args.input;
              accepted = input_of g.L.In.Source.left (g.L.Listener.queue service.net.value) c.args.token.now.pass.number c.args.input c.args.output c.requires.expected;
              first = first;
            })
            (λ messages replies ends. record {
              input = c.args.input;
              output = c.args.output;
              accepted = c.requires.expected;
              how = c.serve_nine.result;
              input_after = c.serve_nine.new.input;
              output_after = c.serve_nine.new.output;
              ends = ends;
              nothing_failed = c.serve_nine.ensures.nothing_failed;
              read_failed = c.serve_nine.ensures.read_failed;
              write_failed = c.serve_nine.ensures.write_failed;
            }) c.serve_nine.ensures.ends,
      ),
    )

pub returns-clause-served : goal.returns-clause-served
returns-clause-served g c =
    rw (c.new.ensures.input, c.new.ensures.output)
    (c.serve_nine.result, c.serve_nine.ensures.ends, c.serve_nine.ensures.nothing_failed, c.serve_nine.ensures.read_failed, c.serve_nine.ensures.write_failed)
