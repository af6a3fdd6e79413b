use Rattle.bl_syntax.proofs.FirstFaultLemmas.{Tells-formula_fault}
use Rattle.bl_syntax.proofs.laws.no_fault_of_a_formula.Goals as goal

pub returns : goal.returns
returns c = Tells-formula_fault
