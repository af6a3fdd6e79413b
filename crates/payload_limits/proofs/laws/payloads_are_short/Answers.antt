use Rattle.payload_limits.proofs.EventLengths.{payload_length}
use Rattle.payload_limits.proofs.laws.payloads_are_short.Goals as goal

pub returns : goal.returns
returns c = payload_length
