-- The row of the grant tells it, if there is one.
use Rattle.std.proofs.Common.{◌<◌, ap, length, map, refl, sym, ◌∙◌, arith}
use Rattle.std.proofs.lemmas.Option.{slice_get_read, slice_get_within}
use Rattle.issue_standings.specs.GrantStanding.{gone_by}
use Rattle.issue_standings.specs.Index.{front_of}
use Rattle.issue_standings.proofs.IndexLemmas.{nothing_gone, standing_in, unissued_not_gone}
use Rattle.issue_standings.proofs.standings.Standings.gone_by.Goals as goal

pub returns-then-not-has_withdrawn : goal.returns-then-not-has_withdrawn
returns-then-not-has_withdrawn g c = sym (nothing_gone c.args.registry.now.entries c.args.procap.now.grant (map g.B.Bearing.bearing c.args.issues.now) (sym c.if-not-has_withdrawn.ensures))

pub find_row-requires : goal.find_row-requires
find_row-requires g c = record { key = c.requires.key; rows = c.requires.indexed.rows; fronts = c.requires.indexed.fronts; front_is = c.front_of.ensures ∙ ap front_of c.requires.genuine }

pub index-requires : goal.index-requires
index-requires g c =
    let within : c.in-Some.row < length c.args.self.now.rows.items = slice_get_within c.args.self.now.rows.items c.in-Some.row c.in-Some.ensures.row.kept c.in-Some.ensures.row.at in
    omega (arith, within, c.args.self.now.rows.ok.0)

pub returns-in-Some : goal.returns-in-Some
returns-in-Some g c =
    let row_is = c.in-Some.ensures.row in
    let within = slice_get_within c.args.self.now.rows.items c.in-Some.row row_is.kept row_is.at in
    let at = slice_get_read c.args.self.now.rows.items _ c.in-Some.row c.index.result.now refl within c.index.ensures in
    c.gone_by.ensures
    ∙ ap gone_by (standing_in c.requires.key c.args.registry.now.entries (map g.B.Bearing.bearing c.args.issues.now) c.args.self.now c.args.procap.now.grant c.in-Some.row c.index.result.now c.requires.unnamed c.requires.indexed row_is at)

pub returns-in-None : goal.returns-in-None
returns-in-None g c = sym (unissued_not_gone c.args.registry.now.entries c.args.procap.now.grant (map g.B.Bearing.bearing c.args.issues.now) c.requires.unnamed c.in-None.ensures.row)
