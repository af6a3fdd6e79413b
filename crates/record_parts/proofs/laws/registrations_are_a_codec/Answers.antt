use Rattle.record_parts.proofs.RecordLemmas.{registered_codec}
use Rattle.record_parts.proofs.laws.registrations_are_a_codec.Goals as goal

pub returns : goal.returns
returns c = registered_codec
