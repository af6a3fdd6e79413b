use Rattle.record_parts.proofs.OperationLemmas.{operation_codec}
use Rattle.record_parts.proofs.laws.operations_are_a_codec.Goals as goal

pub returns : goal.returns
returns c = operation_codec
