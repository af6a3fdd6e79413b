-- None of the rows so far is of the node.
use Rattle.std.proofs.Common.{◌≡◌, drop, map}
use Rattle.node_rows.specs.Rows.{tree_row}
use Rattle.history_table.specs.Path.{place_at}
use Rattle.history_table.proofs.places.spot_among.Given as goal

abbrev pub invariant-loop-row : goal.invariant-loop-row
invariant-loop-row l = place_at (map tree_row l.rows) l.number ≡ place_at (map tree_row (drop l.row-index l.rows)) l.number
