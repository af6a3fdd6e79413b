-- A script in memory begins before the first event.
use Rattle.std.proofs.Common.{refl, subst, sym}
use Rattle.pcfs_session.specs.ScriptRun.{IsLawfulStanding}
use Rattle.pcfs_session.proofs.LawfulRunLemmas.{IsLawfulStanding-fresh}
use Rattle.pcfs_tools.specs.Memory as memory
use Rattle.pcfs_tools.proofs.MemoryLemmas.{MemoryEnds-ran, fresh_over}
use Rattle.pcfs_tools.proofs.StatusLemmas.{ScriptStatus-unbegun}
use Rattle.pcfs_tools.proofs.memory.run_in_memory.Goals as goal

pub run_over-status-requires-clause-lawful : goal.run_over-status-requires-clause-lawful
run_over-status-requires-clause-lawful g c = subst IsLawfulStanding (sym (fresh_over c.args.secrets.now _ c.in-Ok.ensures)) (IsLawfulStanding-fresh c.args.secrets.now)

pub returns-in-Ok : goal.returns-in-Ok
returns-in-Ok g c = MemoryEnds-ran c.args.secrets.now _ _ _ _ _ _ _ (fresh_over c.args.secrets.now _ c.in-Ok.ensures) c.run_over-status.ensures.1.ends c.memory_status.ensures

pub returns-in-Err : goal.returns-in-Err
returns-in-Err g c = memory.ended 9 _ (λ e. absurd cc) (ScriptStatus-unbegun _ c.args.secrets.now _ _ _ refl refl refl refl)
