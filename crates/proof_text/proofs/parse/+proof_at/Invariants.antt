-- The premises of a rule lie one level below it.
use Rattle.proof_text.proofs.parse.+proof_at.Given as goal

abbrev pub decreases-proof_at : goal.decreases-proof_at
decreases-proof_at l = l.levels
