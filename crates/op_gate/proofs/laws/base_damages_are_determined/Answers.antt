use Rattle.op_gate.proofs.BaseDamageLemmas.{one_base_damage}
use Rattle.op_gate.proofs.laws.base_damages_are_determined.Goals as goal

pub returns : goal.returns
returns c = one_base_damage
