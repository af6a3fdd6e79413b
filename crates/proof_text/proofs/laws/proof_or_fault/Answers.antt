-- Each rule takes a level, and each part answers.
use Rattle.proof_text.proofs.TotalLemmas.{proof_or_its_fault}
use Rattle.proof_text.proofs.laws.proof_or_fault.Goals as goal

pub returns : goal.returns
returns c = λ text. proof_or_its_fault text
