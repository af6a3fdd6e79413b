-- A text stops in one way.
use Rattle.bl_text.proofs.TextLemmas.{formula_fault_once}
use Rattle.bl_text.proofs.laws.one_fault_of_a_formula.Goals as goal

pub returns : goal.returns
returns c = λ text e f h k. formula_fault_once h k
