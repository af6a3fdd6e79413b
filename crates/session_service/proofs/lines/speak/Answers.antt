-- The line is answered, and the reply is spelled alone.
use Rattle.std.proofs.Common.{◌≡◌, ◌∙◌, ◌++◌, List, ℕ, subst}
use Rattle.std.specs.Prelude.{OnOk}
use Rattle.session_service.specs.LineTalking.{reply_line}
use Rattle.session_service.proofs.HeardLemmas.{AreSaid-line}
use Rattle.session_service.proofs.lines.speak.Goals as goal

pub returns-clause-said : goal.returns-clause-said
returns-clause-said g c = (
  c.answer_line-reply.result,
  AreSaid-line g.D.Disk.faults (g.C.TurnClock.gives c.args.clock.now) _ _ _ _ _ _ c.answer_line-reply.ensures.replied c.answer_line-reply.ensures.stopped,
  subst (λ (b : List ℕ). OnOk c.write_reply.result (c.write_reply.new.out ≡ b ++ reply_line c.args.line.now c.answer_line-reply.result)) c.requires.empty c.write_reply.ensures.ok,
)

pub returns-clause-same_lock : goal.returns-clause-same_lock
returns-clause-same_lock g c = c.answer_line-reply.ensures.replied.done.goes_on.lock ∙ c.requires.lock
