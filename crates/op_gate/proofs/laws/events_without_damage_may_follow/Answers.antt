use Rattle.op_gate.proofs.AdmitLemmas.{free_next}
use Rattle.op_gate.proofs.laws.events_without_damage_may_follow.Goals as goal

pub returns : goal.returns
returns c = free_next
