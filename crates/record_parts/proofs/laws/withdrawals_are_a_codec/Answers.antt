use Rattle.record_parts.proofs.RecordLemmas.{withdrawn_codec}
use Rattle.record_parts.proofs.laws.withdrawals_are_a_codec.Goals as goal

pub returns : goal.returns
returns c = withdrawn_codec
