-- The row is written into its place.
use Rattle.std.proofs.Common.{refl}
use Rattle.issue_standings.specs.Rows.{begun}
use Rattle.issue_standings.proofs.RowLemmas.{changed_read}
use Rattle.issue_standings.proofs.standings.begin.Goals as goal

pub returns-clause-rows : goal.returns-clause-rows
returns-clause-rows c = changed_read begun c.args.rows.now.items c.args.row c.index-before.result.now _ c.requires c.index-before.ensures refl
