use Rattle.std.proofs.Common.{length}
use Rattle.issue_standings.proofs.standing.+first_withdrawn.Given as goal

abbrev pub decreases-first_withdrawn : goal.decreases-first_withdrawn
decreases-first_withdrawn l = length l.numbers.now
