-- The first row whose issue has the grant is the grant's, and if there is none, no row is.
use Rattle.std.proofs.Common.{map, sym, ◌∙◌}
use Rattle.std.proofs.lemmas.Bool.{false≢true}
use Rattle.issue_standings.proofs.ReadingLemmas.{kept_at, kept_is, none_at_all, none_before_more, place_within, row_found}
use Rattle.issue_standings.proofs.standings.search_rows.Goals as goal

pub is_grant_at-requires : goal.is_grant_at-requires
is_grant_at-requires g c =
    let row = c.loop-row.row in
    place_within g.B.Bearing.bearing c.args.issues.now c.args.rows.now row (kept_at c.args.rows.now row) c.requires c.loop-row-test.true (kept_is c.args.rows.now row c.loop-row-test.true)

pub returns-then-is_grant_at : goal.returns-then-is_grant_at
returns-then-is_grant_at g c =
    let row = c.loop-row.row in
    row_found (map g.B.Bearing.bearing c.args.issues.now) c.args.rows.now c.args.grant.now row (kept_at c.args.rows.now row) c.loop-row-test.true (kept_is c.args.rows.now row c.loop-row-test.true) (c.is_grant_at.ensures.0 c.if-is_grant_at.true)

pub loop-row-preserved : goal.loop-row-preserved
loop-row-preserved g c =
    let row = c.loop-row.row in
    none_before_more (map g.B.Bearing.bearing c.args.issues.now) c.args.rows.now c.args.grant.now row (kept_at c.args.rows.now row) c.loop-row-test.true (kept_is c.args.rows.now row c.loop-row-test.true) c.loop-row.invariant
    (λ has. false≢true (sym c.if-is_grant_at.false ∙ c.is_grant_at.ensures.1 has))

pub returns : goal.returns
returns g c = none_at_all (map g.B.Bearing.bearing c.args.issues.now) c.args.rows.now c.args.grant.now c.loop-row.row c.loop-row-test.false c.loop-row.invariant
