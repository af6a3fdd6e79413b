use Rattle.journal_core.proofs.ReadingLemmas.{area_opens, area_not_broken}
use Rattle.journal_core.proofs.laws.an_area_is_open_and_whole.Goals as goal

pub returns : goal.returns
returns c = record { is_open = area_opens; whole = area_not_broken }
