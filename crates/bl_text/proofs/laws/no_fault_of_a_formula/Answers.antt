-- What is read to its end does not stop.
use Rattle.bl_text.proofs.TextLemmas.{formula_or_fault}
use Rattle.bl_text.proofs.laws.no_fault_of_a_formula.Goals as goal

pub returns : goal.returns
returns c = λ text f e h k. formula_or_fault h k
