-- The lines are answered, and then all replies are written.
use Rattle.std.proofs.Common.{◌∙◌, ap}
use Rattle.pcfs_ports.specs.Faults.{raise}
use Rattle.pcfs_session.proofs.AnsweredLemmas.{AnswersHeld-out, HaltsWithin-unsent}
use Rattle.pcfs_session.proofs.answering.answer_out.Goals as goal

pub returns-in-Ok-flush-clause-ok : goal.returns-in-Ok-flush-clause-ok
returns-in-Ok-flush-clause-ok g c = AnswersHeld-out g.D.Disk.clock g.D.Disk.left_since g.D.Disk.image g.D.Disk.faults _ _ _ _ _ _ _ _ _ _ c.in-Ok.ensures.ok c.in-Ok-flush.ensures.ok c.in-Ok-flush.ensures.empty

pub returns-in-Err-flush-clause-halts : goal.returns-in-Err-flush-clause-halts
returns-in-Err-flush-clause-halts g c = HaltsWithin-unsent g.D.Disk.clock g.D.Disk.left_since g.D.Disk.image g.D.Disk.faults _ _ _ _ _ _ _ _ _ _ c.in-Ok.ensures.ok c.in-Ok.ensures.few c.in-Err-flush.ensures.err

pub returns-in-Ok-flush-clause-steady : goal.returns-in-Ok-flush-clause-steady
returns-in-Ok-flush-clause-steady g c = c.in-Ok-flush.ensures.steady ∙ c.in-Ok.ensures.steady

pub returns-in-Err-flush-clause-by_one : goal.returns-in-Err-flush-clause-by_one
returns-in-Err-flush-clause-by_one g c is = c.in-Err-flush.ensures.by_one ∙ ap raise c.in-Ok.ensures.steady

pub returns-in-Err-flush-clause-broken : goal.returns-in-Err-flush-clause-broken
returns-in-Err-flush-clause-broken g c is = c.in-Err-flush.ensures.broken
