-- The issue is counted if its row is to be counted anew, and else the row stays.
use Rattle.std.proofs.Common.{◌∙◌, refl, sym}
use Rattle.policy_statement.specs.Withdrawal.{is_withdrawn}
use Rattle.issue_standings.specs.Rows.{counted_anew, counted_in}
use Rattle.issue_standings.proofs.RecountLemmas.{counted_if_anew, kept_if_not}
use Rattle.issue_standings.proofs.RowLemmas.{changed_alike, changed_not}
use Rattle.issue_standings.proofs.standings.count_anew.Goals as goal

pub returns-then-index-clause-rows : goal.returns-then-index-clause-rows
returns-then-index-clause-rows g c =
    let b = g.B.Bearing.bearing c.args.issue.now in
    let withdrawn = is_withdrawn c.args.registry.now.entries in
    c.count.ensures.rows
    ∙ changed_alike (counted_in c.first_withdrawn.result) (counted_anew withdrawn b) c.args.rows.now.items c.args.row c.index.result.now c.requires c.index.ensures
    (counted_if_anew withdrawn b c.first_withdrawn.result b.cited c.index.result.now c.first_withdrawn.ensures refl c.if-index.true)

pub returns-else-index-clause-rows : goal.returns-else-index-clause-rows
returns-else-index-clause-rows g c =
    let b = g.B.Bearing.bearing c.args.issue.now in
    let withdrawn = is_withdrawn c.args.registry.now.entries in
    sym (changed_not (counted_anew withdrawn b) c.args.rows.now.items c.args.row c.index.result.now c.requires c.index.ensures (kept_if_not withdrawn b c.index.result.now c.if-index.false))
