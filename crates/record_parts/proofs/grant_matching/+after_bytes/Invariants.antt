use Rattle.std.proofs.Common.{length}
use Rattle.record_parts.proofs.grant_matching.+after_bytes.Given as goal

abbrev pub decreases-after_bytes : goal.decreases-after_bytes
decreases-after_bytes l = length l.front.now
