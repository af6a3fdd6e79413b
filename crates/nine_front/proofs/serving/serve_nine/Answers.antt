-- The connection ends as its talk does.
use Rattle.std.proofs.Common.{◌∙◌, refl, sym}
use Rattle.session_loop.specs.declared.talk_end.TalkEnd.TheVariants as hows
use Rattle.session_loop.proofs.EndLemmas.{TalkEnds-unbegun}
use Rattle.nine_fids.specs.States.{begun_with}
use Rattle.nine_front.specs.NineTalking.{nine_talking, nine_laws}
use Rattle.nine_front.proofs.EndsLemmas.{NineEnds-talk}
use Rattle.nine_front.proofs.StillLemmas.{NothingFailedBefore-talk, ends_by_read, ends_by_write}
use Rattle.nine_front.proofs.serving.serve_nine.Goals as goal

pub returns-in-Err-clause-ends : goal.returns-in-Err-clause-ends
returns-in-Err-clause-ends g c =
    NineEnds-talk g.D.Disk.faults (g.C.TurnClock.gives c.args.clock.now) c.args.nonce _ _ _ _ hows.NoMemory _ refl
    (TalkEnds-unbegun (nine_talking g.D.Disk.faults (g.C.TurnClock.gives c.args.clock.now)) (nine_laws g.D.Disk.faults (g.C.TurnClock.gives c.args.clock.now)) (begun_with c.args.nonce) _ _ _ refl refl)

pub returns-clause-ends : goal.returns-clause-ends
returns-clause-ends g c =
    NineEnds-talk g.D.Disk.faults (g.C.TurnClock.gives c.args.clock.now) c.args.nonce _ _ _ _ c.converse.result _ c.nine_end.ensures (c.converse.ensures.ends (begun_with c.args.nonce) c.in-Ok.ensures)

pub returns-clause-nothing_failed : goal.returns-clause-nothing_failed
returns-clause-nothing_failed g c = NothingFailedBefore-talk _ _ c.converse.result _ c.nine_end.ensures c.converse.ensures.steady

pub returns-clause-read_failed : goal.returns-clause-read_failed
returns-clause-read_failed g c is = c.converse.ensures.read_failed (ends_by_read c.converse.result (sym c.nine_end.ensures ∙ is))

pub returns-clause-write_failed : goal.returns-clause-write_failed
returns-clause-write_failed g c is = c.converse.ensures.write_failed (ends_by_write c.converse.result (sym c.nine_end.ensures ∙ is))
