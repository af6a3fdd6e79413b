-- The line is answered, and its reply is on its way; or no further line is answered.
use Rattle.std.proofs.Common.{ap, Err}
use Rattle.pcfs_session.proofs.StillLemmas.{halt_unsent}
use Rattle.pcfs_session.proofs.AnsweredLemmas.{AreAnswered-line, HaltsAt-line, HaltsAt-stopped}
use Rattle.pcfs_session.proofs.answering.answer_line.Goals as goal

pub returns-then-is_stopped-clause-halts : goal.returns-then-is_stopped-clause-halts
returns-then-is_stopped-clause-halts g c = HaltsAt-stopped g.D.Disk.clock g.D.Disk.left_since g.D.Disk.image g.D.Disk.faults _ _ _ _ _ _ _ _ c.stop.result c.reply_to-reply.ensures c.if-is_stopped.ensures c.requires.few c.stop.ensures.had_memory c.stop.ensures.out c.stop.ensures.some

pub returns-in-Ok-clause-ok : goal.returns-in-Ok-clause-ok
returns-in-Ok-clause-ok g c = AreAnswered-line g.D.Disk.clock g.D.Disk.left_since g.D.Disk.image g.D.Disk.faults _ _ _ _ _ _ _ _ c.reply_to-reply.ensures c.if-is_stopped.ensures c.in-Ok.ensures.ok

pub returns-in-Err-clause-halts : goal.returns-in-Err-clause-halts
returns-in-Err-clause-halts g c = HaltsAt-line g.D.Disk.clock g.D.Disk.left_since g.D.Disk.image g.D.Disk.faults _ _ _ _ _ _ _ _ c.in-Err.fault c.reply_to-reply.ensures c.if-is_stopped.ensures c.requires.few c.in-Err.ensures.err (λ is. c.in-Err.ensures.unsent (ap Err is))

pub returns-in-Err-clause-steady_halt : goal.returns-in-Err-clause-steady_halt
returns-in-Err-clause-steady_halt g c = halt_unsent c.in-Err.fault _ _ (λ is. c.in-Err.ensures.steady_unsent (ap Err is))
