use Rattle.journal_core.proofs.ReadingLemmas.{one_front, front_has_base, area_front}
use Rattle.journal_core.proofs.laws.a_front_has_one_reading.Goals as goal

pub returns : goal.returns
returns c = record { one = one_front; based = front_has_base; area = area_front }
