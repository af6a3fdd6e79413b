-- The premises of a node lie one level below it.
use Rattle.std.proofs.Common.{◌+◌, ◌*◌}
use Rattle.proof_term.proofs.reading.+proofs.Given as goal

abbrev pub decreases-plain_at : goal.decreases-plain_at
decreases-plain_at l = 3 * l.levels + 2

abbrev pub decreases-plain_premises_at : goal.decreases-plain_premises_at
decreases-plain_premises_at l = 3 * l.levels + 1

abbrev pub decreases-proof_at : goal.decreases-proof_at
decreases-proof_at l = 3 * l.levels

abbrev pub decreases-termed_at : goal.decreases-termed_at
decreases-termed_at l = 3 * l.levels + 2

abbrev pub decreases-termed_premises_at : goal.decreases-termed_premises_at
decreases-termed_premises_at l = 3 * l.levels + 1
