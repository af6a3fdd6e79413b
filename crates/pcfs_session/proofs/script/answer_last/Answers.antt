-- The last line is answered if there is one.
use Rattle.std.proofs.Common.{ap, ◌∙◌, Err}
use Rattle.pcfs_ports.specs.Faults.{raise}
use Rattle.pcfs_session.proofs.StillLemmas.{still_halted, still_then, halted_no_read}
use Rattle.pcfs_session.proofs.ScriptEndsLemmas.{LastEnds-none, LastEnds-line, LastEnds-halted, halted_write}
use Rattle.pcfs_session.proofs.TakenLemmas.{none_left}
use Rattle.pcfs_session.proofs.script.answer_last.Goals as goal

pub returns-in-None-clause-ends : goal.returns-in-None-clause-ends
returns-in-None-clause-ends g c = LastEnds-none g.D.Disk.clock g.D.Disk.left_since g.D.Disk.image g.D.Disk.faults _ _ _ _ _ _ _ (none_left _ c.requires.one c.in-None.ensures.none) c.requires.running c.requires.nothing_waits c.finish.ensures.ends

pub returns-in-Ok-clause-ends : goal.returns-in-Ok-clause-ends
returns-in-Ok-clause-ends g c = LastEnds-line g.D.Disk.clock g.D.Disk.left_since g.D.Disk.image g.D.Disk.faults _ _ _ _ _ _ _ _ _ _ _ c.in-Some.ensures.some.0 c.in-Some.ensures.some.1 c.in-Some.ensures.some.2 c.in-Some.ensures.few c.requires.nothing_waits c.in-Ok.ensures.ok c.in-Ok.ensures.few c.finish-in-Ok.ensures.ends

pub returns-in-Err-clause-ends : goal.returns-in-Err-clause-ends
returns-in-Err-clause-ends g c = LastEnds-halted g.D.Disk.clock g.D.Disk.left_since g.D.Disk.image g.D.Disk.faults _ _ _ _ _ _ _ _ _ _ c.halted_end.ensures c.in-Some.ensures.some.0 c.in-Some.ensures.some.1 c.in-Some.ensures.some.2 c.in-Some.ensures.few c.requires.nothing_waits c.in-Err.ensures.halts

pub returns-in-Err-clause-risen : goal.returns-in-Err-clause-risen
returns-in-Err-clause-risen g c is = c.in-Err.ensures.risen (ap Err (halted_write _ _ c.halted_end.ensures is))

pub returns-in-Ok-clause-steady : goal.returns-in-Ok-clause-steady
returns-in-Ok-clause-steady g c = still_then _ _ _ _ c.in-Ok.ensures.steady c.finish-in-Ok.ensures.steady

pub returns-in-Ok-clause-by_one : goal.returns-in-Ok-clause-by_one
returns-in-Ok-clause-by_one g c is = c.finish-in-Ok.ensures.by_one is ∙ ap raise c.in-Ok.ensures.steady

pub returns-in-Err-clause-steady : goal.returns-in-Err-clause-steady
returns-in-Err-clause-steady g c = still_halted _ _ _ _ c.halted_end.ensures c.in-Err.ensures.steady_halt

pub returns-in-Err-clause-by_one : goal.returns-in-Err-clause-by_one
returns-in-Err-clause-by_one g c is = c.in-Err.ensures.by_one (ap Err (halted_write _ _ c.halted_end.ensures is))

pub returns-in-Err-clause-broken : goal.returns-in-Err-clause-broken
returns-in-Err-clause-broken g c is = c.in-Err.ensures.broken (ap Err (halted_write _ _ c.halted_end.ensures is))

pub returns-in-Err-clause-no_read : goal.returns-in-Err-clause-no_read
returns-in-Err-clause-no_read g c = halted_no_read _ _ c.halted_end.ensures
