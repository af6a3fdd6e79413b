-- The issue that was read has the grant, or not.
use Rattle.std.proofs.Common.{refl}
use Rattle.issue_standings.proofs.ReadingLemmas.{grant_at_told}
use Rattle.issue_standings.proofs.standings.is_grant_at.Goals as goal

pub returns : goal.returns
returns g c =
    let issue = c.index-issues-place.result in
    grant_at_told (g.B.Bearing.bearing) c.args.issues.now c.args.place issue (g.B.Bearing.bearing issue).grant c.args.grant.now c.is_grant.result c.requires c.index-issues-place.is refl c.is_grant.ensures
