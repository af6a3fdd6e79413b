-- A formula's fields are read with one level of depth less; within a level the calls go from the fields to their parts.
use Rattle.std.proofs.Common.{◌+◌, ◌*◌}
use Rattle.bl_codec.proofs.formula_reading.+formula.Given as goal

abbrev pub decreases-formula_at : goal.decreases-formula_at
decreases-formula_at l = 4 * l.depth

abbrev pub decreases-fields_at : goal.decreases-fields_at
decreases-fields_at l = 4 * l.depth + 2

abbrev pub decreases-pair_at : goal.decreases-pair_at
decreases-pair_at l = 4 * l.depth + 1

abbrev pub decreases-binder_at : goal.decreases-binder_at
decreases-binder_at l = 4 * l.depth + 1

abbrev pub decreases-says_at : goal.decreases-says_at
decreases-says_at l = 4 * l.depth + 1

abbrev pub decreases-on_at : goal.decreases-on_at
decreases-on_at l = 4 * l.depth + 1

abbrev pub decreases-node_at : goal.decreases-node_at
decreases-node_at l = 4 * l.depth + 3
