-- The plain ones of the issues so far changed their rows.
use Rattle.std.proofs.Common.{◌≡◌, length}
use Rattle.policy_statement.specs.Registered.{spare_of}
use Rattle.issue_standings.specs.Rows.{begun_by}
use Rattle.issue_standings.proofs.ReadingLemmas.{plain_to, rows_after}
use Rattle.issue_standings.proofs.standings.begin_all.Given as goal

abbrev pub invariant-loop-place : goal.invariant-loop-place
invariant-loop-place g l = record {
  rows : l.rows.items ≡ rows_after g.B.Bearing.bearing (begun_by l.number) l.row_of l.issues l.initial.rows.items l.place;
  seen : l.seen ≡ length (plain_to g.B.Bearing.bearing l.issues l.place);
  spare : spare_of l.rows ≡ spare_of l.initial.rows;
}
