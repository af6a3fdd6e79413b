use Rattle.op_gate.proofs.AdmitLemmas.{damaged_not_next}
use Rattle.op_gate.proofs.laws.damaged_events_may_not_follow.Goals as goal

pub returns : goal.returns
returns c = damaged_not_next
