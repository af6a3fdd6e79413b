-- No row before this one is the grant's.
use Rattle.std.proofs.Common.{map}
use Rattle.issue_standings.proofs.ReadingLemmas.{NoneBefore}
use Rattle.issue_standings.proofs.standings.search_rows.Given as goal

abbrev pub invariant-loop-row : goal.invariant-loop-row
invariant-loop-row g l = NoneBefore (map g.B.Bearing.bearing l.issues) l.rows l.grant l.row
