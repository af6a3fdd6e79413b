use Rattle.file_world.proofs.LawLemmas.{refusals_come_in_order}
use Rattle.file_world.proofs.laws.refusals_come_in_order.Goals as goal

pub returns : goal.returns
returns c = refusals_come_in_order
