-- The lines before the long one are answered, and then it is told.
use Rattle.std.proofs.Common.{ap, ◌∙◌, Err}
use Rattle.pcfs_ports.specs.Faults.{raise}
use Rattle.pcfs_session.proofs.StillLemmas.{still_unsent, still_halted, unsent_no_read, halted_no_read}
use Rattle.pcfs_session.proofs.ScriptEndsLemmas.{LongEnds-told, LongEnds-untold, LongEnds-halted, unsent_write, halted_write}
use Rattle.pcfs_session.proofs.StoredLemmas.{HasRisen-earlier}
use Rattle.pcfs_session.proofs.script.end_at_long_line.Goals as goal

pub returns-in-Err-clause-ends : goal.returns-in-Err-clause-ends
returns-in-Err-clause-ends g c lines whole same = LongEnds-halted g.D.Disk.clock g.D.Disk.left_since g.D.Disk.image g.D.Disk.faults _ lines _ _ _ _ _ _ _ _ c.halted_end.ensures c.requires.nothing_waits same c.in-Err.ensures.halts

pub returns-in-Err-clause-risen : goal.returns-in-Err-clause-risen
returns-in-Err-clause-risen g c is = c.in-Err.ensures.risen (ap Err (halted_write _ _ c.halted_end.ensures is))

pub returns-in-Ok-send_all-clause-ends : goal.returns-in-Ok-send_all-clause-ends
returns-in-Ok-send_all-clause-ends g c lines whole same = LongEnds-told g.D.Disk.clock g.D.Disk.left_since g.D.Disk.image g.D.Disk.faults _ lines _ _ _ _ _ _ _ _ _ c.requires.nothing_waits whole same c.in-Ok.ensures.ok c.in-Ok-send_all.ensures.ok

pub returns-in-Err-send_all-clause-ends : goal.returns-in-Err-send_all-clause-ends
returns-in-Err-send_all-clause-ends g c lines whole same = LongEnds-untold g.D.Disk.clock g.D.Disk.left_since g.D.Disk.image g.D.Disk.faults _ lines _ _ _ _ _ _ _ _ _ _ _ c.unsent_end.ensures c.requires.nothing_waits whole same c.in-Ok.ensures.ok c.in-Ok.ensures.few c.in-Err-send_all.ensures.err (λ is. c.in-Err-send_all.ensures.unsent (ap Err is))

pub returns-in-Err-send_all-clause-risen : goal.returns-in-Err-send_all-clause-risen
returns-in-Err-send_all-clause-risen g c is = HasRisen-earlier _ _ _ c.in-Ok.ensures.never_falls (c.in-Err-send_all.ensures.risen (ap Err (unsent_write _ _ c.unsent_end.ensures is)))

pub returns-in-Err-clause-steady : goal.returns-in-Err-clause-steady
returns-in-Err-clause-steady g c = still_halted _ _ _ _ c.halted_end.ensures c.in-Err.ensures.steady_halt

pub returns-in-Err-clause-by_one : goal.returns-in-Err-clause-by_one
returns-in-Err-clause-by_one g c is = c.in-Err.ensures.by_one (ap Err (halted_write _ _ c.halted_end.ensures is))

pub returns-in-Err-clause-broken : goal.returns-in-Err-clause-broken
returns-in-Err-clause-broken g c is = c.in-Err.ensures.broken (ap Err (halted_write _ _ c.halted_end.ensures is))

pub returns-in-Err-clause-no_read : goal.returns-in-Err-clause-no_read
returns-in-Err-clause-no_read g c = halted_no_read _ _ c.halted_end.ensures

pub returns-in-Ok-send_all-clause-steady : goal.returns-in-Ok-send_all-clause-steady
returns-in-Ok-send_all-clause-steady g c = c.in-Ok-send_all.ensures.steady ∙ c.in-Ok.ensures.steady

pub returns-in-Err-send_all-clause-steady : goal.returns-in-Err-send_all-clause-steady
returns-in-Err-send_all-clause-steady g c = still_unsent _ _ _ _ c.unsent_end.ensures (λ is. c.in-Err-send_all.ensures.steady_unsent (ap Err is) ∙ c.in-Ok.ensures.steady)

pub returns-in-Err-send_all-clause-by_one : goal.returns-in-Err-send_all-clause-by_one
returns-in-Err-send_all-clause-by_one g c is = c.in-Err-send_all.ensures.by_one (ap Err (unsent_write _ _ c.unsent_end.ensures is)) ∙ ap raise c.in-Ok.ensures.steady

pub returns-in-Err-send_all-clause-broken : goal.returns-in-Err-send_all-clause-broken
returns-in-Err-send_all-clause-broken g c is = c.in-Err-send_all.ensures.broken (ap Err (unsent_write _ _ c.unsent_end.ensures is))

pub returns-in-Err-send_all-clause-no_read : goal.returns-in-Err-send_all-clause-no_read
returns-in-Err-send_all-clause-no_read g c = unsent_no_read _ _ c.unsent_end.ensures
