-- The index of the issues so far.
use Rattle.std.proofs.Common.{map, take}
use Rattle.issue_standings.specs.Index.{IsIndexOf}
use Rattle.issue_standings.proofs.standings.Standings.from_issues.Given as goal

abbrev pub invariant-loop-place : goal.invariant-loop-place
invariant-loop-place g l = IsIndexOf l.key l.registry.entries (map g.B.Bearing.bearing (take l.place l.issues)) l.standings
