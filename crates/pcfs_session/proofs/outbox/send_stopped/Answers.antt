-- What was collected is written, and then the line that tells that a disk failed.
use Rattle.std.proofs.Common.{◌∙◌, [], ap, refl}
use Rattle.pcfs_ports.specs.Faults.{raise}
use Rattle.pcfs_session.proofs.OutboxLemmas.{GoesOut-all, GoesOut-more, GoesOut-some, HoldsSome-more, all_out}
use Rattle.pcfs_session.proofs.outbox.send_stopped.Goals as goal

pub returns-in-Err-clause-err : goal.returns-in-Err-clause-err
returns-in-Err-clause-err g c = HoldsSome-more _ _ _ _ c.in-Err.ensures.err

pub returns-in-Ok-write_all-clause-ok : goal.returns-in-Ok-write_all-clause-ok
returns-in-Ok-write_all-clause-ok g c =
    all_out _ _ _ (GoesOut-more _ _ _ _ [] _ [] (GoesOut-all _ _ _ [] c.in-Ok.ensures.ok refl) (GoesOut-all _ _ _ [] c.in-Ok-write_all.ensures.ok refl))

pub returns-in-Ok-write_all-clause-steady : goal.returns-in-Ok-write_all-clause-steady
returns-in-Ok-write_all-clause-steady g c = c.in-Ok-write_all.ensures.steady ∙ c.in-Ok.ensures.steady

pub returns-in-Err-write_all-clause-err : goal.returns-in-Err-write_all-clause-err
returns-in-Err-write_all-clause-err g c = GoesOut-some _ _ _ _ [] _ (GoesOut-all _ _ _ [] c.in-Ok.ensures.ok refl) c.in-Err-write_all.ensures.err

pub returns-in-Err-write_all-clause-by_one : goal.returns-in-Err-write_all-clause-by_one
returns-in-Err-write_all-clause-by_one g c = c.in-Err-write_all.ensures.by_one ∙ ap raise c.in-Ok.ensures.steady
