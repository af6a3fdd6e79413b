-- Each call has one level less.
use Rattle.proof_term.proofs.measure.+measure.Given as goal

abbrev pub decreases-measure : goal.decreases-measure
decreases-measure l = l.levels
