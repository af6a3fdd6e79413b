-- The report is made and told.
use Rattle.pcfs_tools.proofs.TellingLemmas.{TellsAudit-told}
use Rattle.pcfs_tools.proofs.auditing.audit_history.Goals as goal

pub returns-in-Ok : goal.returns-in-Ok
returns-in-Ok g c = TellsAudit-told _ _ _ c.in-Ok.report _ _ _ _ _ _ c.in-Ok.ensures c.write_report_lines.ensures
