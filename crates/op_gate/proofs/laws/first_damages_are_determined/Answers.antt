use Rattle.op_gate.proofs.AdmitLemmas.{first_damages}
use Rattle.op_gate.proofs.laws.first_damages_are_determined.Goals as goal

pub returns : goal.returns
returns c = first_damages
