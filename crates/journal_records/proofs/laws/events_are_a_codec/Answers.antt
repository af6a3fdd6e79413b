use Rattle.journal_records.proofs.EventLemmas.{event_codec}
use Rattle.journal_records.proofs.laws.events_are_a_codec.Goals as goal

pub returns : goal.returns
returns c = event_codec
