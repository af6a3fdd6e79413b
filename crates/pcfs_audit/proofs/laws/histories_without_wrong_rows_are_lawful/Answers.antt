use Rattle.pcfs_audit.proofs.LawLemmas.{right_lawful}
use Rattle.pcfs_audit.proofs.laws.histories_without_wrong_rows_are_lawful.Goals as goal

pub returns : goal.returns
returns c = λ authority base events report lawful counted typed is only. right_lawful authority base events report is only lawful counted typed
