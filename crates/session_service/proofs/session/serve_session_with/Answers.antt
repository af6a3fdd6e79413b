-- The greeting is written, and then the lines are answered.
use Rattle.std.proofs.Common.{ap, inl, refl, ◌∙◌}
use Rattle.pcfs_ports.specs.Faults.{raise}
use Rattle.session_service.proofs.SessionEndsLemmas.{SessionEnds-ungreeted, SessionEnds-greeted, GreetsFirst-greeted}
use Rattle.session_service.proofs.StillLemmas.{NothingFailedBefore-greeted}
use Rattle.session_service.proofs.session.serve_session_with.Goals as goal

pub returns-in-Ok-clause-ends : goal.returns-in-Ok-clause-ends
returns-in-Ok-clause-ends g c =
    SessionEnds-greeted g.D.Disk.faults (g.C.TurnClock.gives c.args.clock.now) c.args.nonce _ _ _
    (record { left = g.I.Source.left c.args.input.now; read_faults = g.I.Source.faults c.args.input.now; held = g.O.Sink.held c.greet.new.output; write_faults = g.O.Sink.faults c.greet.new.output }) _ _ refl refl c.in-Ok.ensures.never_falls
    c.in-Ok.ensures.ok c.answer_lines.ensures.ends

pub returns-in-Ok-clause-greets_first : goal.returns-in-Ok-clause-greets_first
returns-in-Ok-clause-greets_first g c =
    GreetsFirst-greeted g.D.Disk.faults (g.C.TurnClock.gives c.args.clock.now) c.args.nonce _ _
    (record { left = g.I.Source.left c.args.input.now; read_faults = g.I.Source.faults c.args.input.now; held = g.O.Sink.held c.args.output.now; write_faults = g.O.Sink.faults c.args.output.now })
    (record { left = g.I.Source.left c.args.input.now; read_faults = g.I.Source.faults c.args.input.now; held = g.O.Sink.held c.greet.new.output; write_faults = g.O.Sink.faults c.greet.new.output })
    (record { left = g.I.Source.left c.answer_lines.new.input; read_faults = g.I.Source.faults c.answer_lines.new.input; held = g.O.Sink.held c.answer_lines.new.output; write_faults = g.O.Sink.faults c.answer_lines.new.output }) _ c.in-Ok.ensures.ok c.answer_lines.ensures.ends

pub returns-in-Err-clause-ends : goal.returns-in-Err-clause-ends
returns-in-Err-clause-ends g c = SessionEnds-ungreeted g.D.Disk.faults (g.C.TurnClock.gives c.args.clock.now) c.args.nonce _ _ _ refl refl c.in-Err.ensures.risen c.in-Err.ensures.err

pub returns-in-Err-clause-greets_first : goal.returns-in-Err-clause-greets_first
returns-in-Err-clause-greets_first g c = inl (refl, refl)

pub returns-in-Ok-clause-steady : goal.returns-in-Ok-clause-steady
returns-in-Ok-clause-steady g c =
    NothingFailedBefore-greeted _
    (record { left = g.I.Source.left c.args.input.now; read_faults = g.I.Source.faults c.args.input.now; held = g.O.Sink.held c.greet.new.output; write_faults = g.O.Sink.faults c.greet.new.output }) _ _ refl c.in-Ok.ensures.steady c.answer_lines.ensures.steady

pub returns-in-Err-clause-steady : goal.returns-in-Err-clause-steady
returns-in-Err-clause-steady g c = record { input = refl; output = tt }

pub returns-in-Ok-clause-write_failed : goal.returns-in-Ok-clause-write_failed
returns-in-Ok-clause-write_failed g c is =
    let last = c.answer_lines.ensures.write_failed is in (last.0 ∙ ap raise c.in-Ok.ensures.steady, last.1)

pub returns-in-Err-clause-read_failed : goal.returns-in-Err-clause-read_failed
returns-in-Err-clause-read_failed g c is = absurd cc

pub returns-in-Err-clause-write_failed : goal.returns-in-Err-clause-write_failed
returns-in-Err-clause-write_failed g c is = (c.in-Err.ensures.by_one, c.in-Err.ensures.broken)
