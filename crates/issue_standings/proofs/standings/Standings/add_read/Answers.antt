-- The index of issues is that with one more whose grant names statements.
use Rattle.std.proofs.Common.{map, sym}
use Rattle.issue_standings.proofs.IndexLemmas.{IsIndexOf-named}
use Rattle.issue_standings.proofs.standings.Standings.add_read.Goals as goal

pub returns-then-not-is_plain : goal.returns-then-not-is_plain
returns-then-not-is_plain g c =
    IsIndexOf-named c.args.key.now c.args.registry.now.entries (map g.B.Bearing.bearing c.args.issues.now) (g.B.Bearing.bearing c.args.issue.now) c.args.self.now (sym c.if-not-is_plain.ensures) c.requires.index
