-- The front leads to the row, or to that of another grant with the same front.
use Rattle.std.proofs.Common.{◌<◌, IsSome, List, length, map, subst, sym, refl, arith}
use Rattle.issue_standings.specs.declared.standings.Row.{Row}
use Rattle.issue_standings.specs.Bearing.{plain}
use Rattle.issue_standings.specs.Rows.{ArePlaces, TellsRow}
use Rattle.issue_standings.proofs.IndexLemmas.{tells_issued, unissued_unknown}
use Rattle.issue_standings.proofs.ReadingLemmas.{place_within, row_found}
use Rattle.issue_standings.proofs.standings.Standings.find_row.Goals as goal

pub returns-in_default-clause-row : goal.returns-in_default-clause-row
returns-in_default-clause-row g c = unissued_unknown (map g.B.Bearing.bearing c.args.issues.now) c.args.self.now c.args.front c.args.grant.now c.requires (sym c.in_default.ensures.value)

pub index-requires : goal.index-requires
index-requires g c =
    let within : c.in-Some.row.now < length c.args.self.now.rows.items = c.requires.fronts.within c.args.front c.in-Some.row.now (sym c.in-Some.ensures.value) in
    omega (arith, within, c.args.self.now.rows.ok.0)

pub is_grant_at-requires : goal.is_grant_at-requires
is_grant_at-requires g c =
    place_within g.B.Bearing.bearing c.args.issues.now c.args.self.now.rows.items c.in-Some.row.now c.index.result.now c.requires.rows.places (c.requires.fronts.within c.args.front c.in-Some.row.now (sym c.in-Some.ensures.value)) c.index.ensures

pub returns-then-is_grant_at : goal.returns-then-is_grant_at
returns-then-is_grant_at g c = record {
  row = row_found (map g.B.Bearing.bearing c.args.issues.now) c.args.self.now.rows.items c.args.grant.now c.in-Some.row.now c.index.result.now (c.requires.fronts.within c.args.front c.in-Some.row.now (sym c.in-Some.ensures.value)) c.index.ensures
      (c.is_grant_at.ensures.0 c.if-is_grant_at.true);
  known = λ _. subst IsSome c.in-Some.ensures.value refl;
}

pub search_rows-requires : goal.search_rows-requires
search_rows-requires g c = subst (λ (rs : List Row). ArePlaces (map g.B.Bearing.bearing c.args.issues.now) rs) (sym c.as_slice.ensures.value) c.requires.rows.places

pub returns : goal.returns
returns g c =
    let bearings = map g.B.Bearing.bearing c.args.issues.now in
    record {
      row = tells_issued bearings (plain bearings) c.args.self.now.rows.items c.args.self.now.row_of.items c.args.grant.now c.search_rows.result c.requires.rows
          (subst (λ (rs : List Row). TellsRow bearings rs c.args.grant.now c.search_rows.result) c.as_slice.ensures.value c.search_rows.ensures);
      known = λ _. subst IsSome c.in-Some.ensures.value refl;
    }
