use Rattle.journal_core.proofs.TotalLemmas.{one_of_three}
use Rattle.journal_core.proofs.laws.bytes_have_a_reading.Goals as goal

pub returns : goal.returns
returns c = one_of_three
