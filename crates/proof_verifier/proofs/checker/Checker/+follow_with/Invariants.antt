use Rattle.std.proofs.Common.{length}
use Rattle.proof_verifier.proofs.checker.Checker.+follow_with.Given as goal

abbrev pub decreases-follow_with : goal.decreases-follow_with
decreases-follow_with l = length l.cites.now
