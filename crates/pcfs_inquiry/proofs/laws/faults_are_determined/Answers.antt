use Rattle.pcfs_inquiry.proofs.LawLemmas.{one_first_fault}
use Rattle.pcfs_inquiry.proofs.laws.faults_are_determined.Goals as goal

pub returns : goal.returns
returns c = one_first_fault
