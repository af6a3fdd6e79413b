use Rattle.text_laws.proofs.PrintableLemmas.{proof_printable}
use Rattle.text_laws.proofs.laws.read_proofs_are_printable.Goals as goal

pub returns : goal.returns
returns c text d h = proof_printable h
