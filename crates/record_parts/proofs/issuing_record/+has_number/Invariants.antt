use Rattle.std.proofs.Common.{length}
use Rattle.record_parts.proofs.issuing_record.+has_number.Given as goal

abbrev pub decreases-has_number : goal.decreases-has_number
decreases-has_number l = length l.bytes.now
