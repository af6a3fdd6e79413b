use Rattle.record_parts.proofs.RecordLemmas.{acted_codec}
use Rattle.record_parts.proofs.laws.actions_are_a_codec.Goals as goal

pub returns : goal.returns
returns c = acted_codec
