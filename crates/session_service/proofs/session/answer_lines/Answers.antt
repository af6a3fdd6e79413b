-- The session goes on as its talk does.
use Rattle.std.proofs.Common.{◌∙◌, sym}
use Rattle.session_history.specs.SessionState.{guest_with}
use Rattle.session_service.proofs.StillLemmas.{NothingFailedBefore-talk, ends_by_read, ends_by_write}
use Rattle.session_service.proofs.TalkEndsLemmas.{GoesOnToEnd-talk}
use Rattle.session_service.proofs.session.answer_lines.Goals as goal

pub returns-clause-ends : goal.returns-clause-ends
returns-clause-ends g c =
    GoesOnToEnd-talk g.D.Disk.faults (g.C.TurnClock.gives c.args.clock.now) c.args.nonce.now _ _ _ _ c.converse.result _ c.session_end.ensures (c.converse.ensures.ends (guest_with c.args.nonce.now) c.new-talk.ensures)

pub returns-clause-steady : goal.returns-clause-steady
returns-clause-steady g c = NothingFailedBefore-talk _ _ c.converse.result _ c.session_end.ensures c.converse.ensures.steady

pub returns-clause-read_failed : goal.returns-clause-read_failed
returns-clause-read_failed g c is = c.converse.ensures.read_failed (ends_by_read c.converse.result (sym c.session_end.ensures ∙ is))

pub returns-clause-write_failed : goal.returns-clause-write_failed
returns-clause-write_failed g c is = c.converse.ensures.write_failed (ends_by_write c.converse.result (sym c.session_end.ensures ∙ is))
