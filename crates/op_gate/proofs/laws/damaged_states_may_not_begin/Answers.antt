use Rattle.op_gate.proofs.BaseDamageLemmas.{lawful_base_not_damaged}
use Rattle.op_gate.proofs.laws.damaged_states_may_not_begin.Goals as goal

pub returns : goal.returns
returns c = lawful_base_not_damaged
