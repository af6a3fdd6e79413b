-- What is read to its end does not stop.
use Rattle.bl_text.proofs.TextLemmas.{statement_or_fault}
use Rattle.bl_text.proofs.laws.no_fault_of_a_statement.Goals as goal

pub returns : goal.returns
returns c = λ text s e h k. statement_or_fault h k
