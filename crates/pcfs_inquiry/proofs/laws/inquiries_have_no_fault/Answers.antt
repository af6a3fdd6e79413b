use Rattle.pcfs_inquiry.proofs.LawLemmas.{no_fault_of_inquiry}
use Rattle.pcfs_inquiry.proofs.laws.inquiries_have_no_fault.Goals as goal

pub returns : goal.returns
returns c = no_fault_of_inquiry
