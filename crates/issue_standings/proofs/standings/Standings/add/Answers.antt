-- A plain issue is counted in the row that is given for its grant, and the index is that of another.
use Rattle.std.proofs.Common.{ap, map, refl, sym, ◌∙◌}
use Rattle.issue_standings.specs.Index.{front_of, rows_of}
use Rattle.issue_standings.specs.Rows.{counted}
use Rattle.issue_standings.proofs.IndexLemmas.{IsIndexOf-added, IsIndexOf-named, given_within, gives_its, room_given}
use Rattle.issue_standings.proofs.standings.Standings.add.Goals as goal

pub returns-then-not-is_plain : goal.returns-then-not-is_plain
returns-then-not-is_plain g c =
    IsIndexOf-named c.args.key.now c.args.registry.now.entries (map g.B.Bearing.bearing c.args.issues.now) (g.B.Bearing.bearing c.args.issue.now) c.args.self.now (sym c.if-not-is_plain.ensures) c.requires.index

pub row_for-row-requires-clause-finds : goal.row_for-row-requires-clause-finds
row_for-row-requires-clause-finds g c = record { key = c.args.key.now; rows = c.requires.index.rows; fronts = c.requires.index.fronts; front_is = c.front_of.ensures ∙ ap front_of c.tag.ensures.same }

pub count-requires : goal.count-requires
count-requires g c =
    let bearings = map g.B.Bearing.bearing c.args.issues.now in
    let b = g.B.Bearing.bearing c.args.issue.now in
    given_within c.args.key.now c.args.registry.now.entries bearings b c.args.self.now c.row_for-row.new.self c.row_for-row.result (sym c.if-not-is_plain.ensures) c.requires.index
    (gives_its c.args.key.now c.args.registry.now.entries bearings b c.args.grant.now c.front_of.result c.tag.result c.args.self.now c.row_for-row.new.self c.row_for-row.result c.requires.grant c.tag.ensures.same c.front_of.ensures c.row_for-row.ensures)

pub push_reserved-requires : goal.push_reserved-requires
push_reserved-requires g c = room_given (map g.B.Bearing.bearing c.args.issues.now) c.args.grant.now c.front_of.result c.args.self.now c.row_for-row.new.self c.row_for-row.result c.requires.room c.row_for-row.ensures

pub returns : goal.returns
returns g c =
    let bearings = map g.B.Bearing.bearing c.args.issues.now in
    let b = g.B.Bearing.bearing c.args.issue.now in
    let mid = c.row_for-row.new.self in
    IsIndexOf-added c.args.key.now c.args.registry.now.entries bearings b c.args.self.now mid _ c.row_for-row.result (sym c.if-not-is_plain.ensures) c.requires.index
    (gives_its c.args.key.now c.args.registry.now.entries bearings b c.args.grant.now c.front_of.result c.tag.result c.args.self.now mid c.row_for-row.result c.requires.grant c.tag.ensures.same c.front_of.ensures c.row_for-row.ensures)
    (c.count.ensures.rows ∙ ap (counted (rows_of mid) c.row_for-row.result) c.first_withdrawn-withdrawn.ensures)
    c.push_reserved.ensures.items (λ front. refl)
