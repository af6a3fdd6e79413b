use Rattle.pcfs_inquiry.proofs.LawLemmas.{inquiry_or_fault}
use Rattle.pcfs_inquiry.proofs.laws.lines_are_an_inquiry_or_faulty.Goals as goal

pub returns : goal.returns
returns c = inquiry_or_fault
