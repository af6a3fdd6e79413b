use Rattle.op_gate.proofs.BaseDamageLemmas.{lawful_if_free}
use Rattle.op_gate.proofs.laws.states_without_damage_may_begin.Goals as goal

pub returns : goal.returns
returns c = lawful_if_free
