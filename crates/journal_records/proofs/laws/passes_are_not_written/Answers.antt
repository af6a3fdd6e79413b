use Rattle.journal_records.proofs.EventLemmas.{same_spelling, whole_again, apart}
use Rattle.journal_records.proofs.laws.passes_are_not_written.Goals as goal

pub returns : goal.returns
returns c = record { same = same_spelling; again = whole_again; apart = apart }
