use Rattle.journal_core.proofs.ReadingLemmas.{one_area}
use Rattle.journal_core.proofs.laws.an_area_has_one_reading.Goals as goal

pub returns : goal.returns
returns c = one_area
