-- The row is begun if the issue cites the number, and else it stays.
use Rattle.std.proofs.Common.{◌≡◌, ◌∙◌, true, false, sym}
use Rattle.issue_standings.specs.Bearing.{cites}
use Rattle.issue_standings.specs.Rows.{begun, begun_by}
use Rattle.issue_standings.proofs.RecountLemmas.{begun_citing, begun_not_citing}
use Rattle.issue_standings.proofs.RowLemmas.{changed_none, changed_same}
use Rattle.issue_standings.proofs.standings.begin_citing.Goals as goal

pub returns-then-cites-clause-rows : goal.returns-then-cites-clause-rows
returns-then-cites-clause-rows g c =
    let b = g.B.Bearing.bearing c.args.issue.now in
    let told : cites c.args.number b ≡ true = sym c.if-cites.ensures in
    c.begin.ensures.rows ∙ changed_same begun (begun_by c.args.number b) (begun_citing c.args.number b told) c.args.rows.now.items c.args.row

pub returns-else-cites-clause-rows : goal.returns-else-cites-clause-rows
returns-else-cites-clause-rows g c =
    let b = g.B.Bearing.bearing c.args.issue.now in
    let told : cites c.args.number b ≡ false = sym c.if-cites.ensures in
    sym (changed_none (begun_by c.args.number b) (begun_not_citing c.args.number b told) c.args.rows.now.items c.args.row)
