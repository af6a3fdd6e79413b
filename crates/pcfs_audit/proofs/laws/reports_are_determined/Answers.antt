use Rattle.pcfs_audit.proofs.LawLemmas.{one_report}
use Rattle.pcfs_audit.proofs.laws.reports_are_determined.Goals as goal

pub returns : goal.returns
returns c = one_report
