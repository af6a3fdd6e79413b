use Rattle.std.proofs.Common.{length}
use Rattle.policy_statement.proofs.digest.+mix_terms.Given as goal

abbrev pub decreases-mix_terms : goal.decreases-mix_terms
decreases-mix_terms l = length l.terms.now
