-- What was read up to a fault can be completed, and decides the fault.
use Rattle.bl_text.proofs.ExactTexts.{exact_formula}
use Rattle.bl_text.proofs.laws.exact_fault_of_a_formula.Goals as goal

pub returns : goal.returns
returns c = λ text e h. exact_formula h
