use Rattle.record_parts.proofs.RecordLemmas.{issued_codec}
use Rattle.record_parts.proofs.laws.issues_are_a_codec.Goals as goal

pub returns : goal.returns
returns c = issued_codec
