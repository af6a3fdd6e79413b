use Rattle.journal_records.proofs.EventLemmas.{recorded, one_record, read_again}
use Rattle.journal_records.proofs.laws.records_tell_their_events.Goals as goal

pub returns : goal.returns
returns c = record { each = recorded; one = one_record; again = read_again }
