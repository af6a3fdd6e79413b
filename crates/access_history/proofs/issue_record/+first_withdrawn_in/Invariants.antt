use Rattle.std.proofs.Common.{length}
use Rattle.access_history.proofs.issue_record.+first_withdrawn_in.Given as goal

abbrev pub decreases-first_withdrawn_in : goal.decreases-first_withdrawn_in
decreases-first_withdrawn_in l = length l.bytes.now
