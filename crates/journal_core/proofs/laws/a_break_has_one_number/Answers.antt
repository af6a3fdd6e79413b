use Rattle.journal_core.proofs.ReadingLemmas.{broken_opens, one_break}
use Rattle.journal_core.proofs.laws.a_break_has_one_number.Goals as goal

pub returns : goal.returns
returns c = record { is_open = broken_opens; one = one_break }
