-- The first rows are left.
use Rattle.std.proofs.Common.{◌≡◌}
use Rattle.policy_statement.specs.Registered.{spare_of}
use Rattle.issue_standings.specs.Rows.{left_to}
use Rattle.issue_standings.proofs.standings.leave_all.Given as goal

abbrev pub invariant-loop-row : goal.invariant-loop-row
invariant-loop-row l = record { rows : l.rows.items ≡ left_to l.row l.initial.rows.items; spare : spare_of l.rows ≡ spare_of l.initial.rows }
