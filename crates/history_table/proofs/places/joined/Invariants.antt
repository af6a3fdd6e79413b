-- The last names so far were written.
use Rattle.std.proofs.Common.{◌≡◌, ◌≤◌, drop, length}
use Rattle.history_table.specs.Path.{slashed}
use Rattle.history_table.proofs.places.joined.Given as goal

abbrev pub invariant-names : goal.invariant-names
invariant-names l = record { written : l.path ≡ slashed (drop l.left l.names); within : l.left ≤ length l.names }

abbrev pub decreases-names : goal.decreases-names
decreases-names l = l.left
