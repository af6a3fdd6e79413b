use Rattle.pcfs_inquiry.proofs.LawLemmas.{one_inquiry}
use Rattle.pcfs_inquiry.proofs.laws.inquiries_are_determined.Goals as goal

pub returns : goal.returns
returns c = one_inquiry
