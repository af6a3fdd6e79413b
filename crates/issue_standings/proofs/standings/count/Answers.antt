-- The row is written into its place.
use Rattle.issue_standings.proofs.RowLemmas.{counted_read}
use Rattle.issue_standings.proofs.standings.count.Goals as goal

pub returns-clause-rows : goal.returns-clause-rows
returns-clause-rows c = counted_read c.args.rows.now.items c.args.row c.args.withdrawn c.index-before.result.now c.after.result c.requires c.index-before.ensures c.after.ensures
