-- The rows have those plain issues counted again whose grants' issues cite the number.
use Rattle.std.proofs.Common.{◌≡◌, List, ℕ, map, ap, refl, subst, sym, ◌∙◌, arith}
use Rattle.std.proofs.lemmas.Bool.{eqb-true}
use Rattle.policy_statement.specs.Withdrawal.{is_withdrawn}
use Rattle.issue_standings.specs.declared.standings.Row.{Row}
use Rattle.issue_standings.specs.Bearing.{plain}
use Rattle.issue_standings.specs.Rows.{AreWithin, begun_by, counted_anew, each_changed, left}
use Rattle.issue_standings.proofs.IndexLemmas.{IsIndexOf-none_plain, IsIndexOf-recounted}
use Rattle.issue_standings.proofs.PlainLemmas.{no_items}
use Rattle.issue_standings.proofs.RecountLemmas.{AreRows-begun}
use Rattle.issue_standings.proofs.RowLemmas.{AreRows-left, AreWithin-rows}
use Rattle.issue_standings.proofs.standings.Standings.recount.Goals as goal

pub returns-then-is_empty : goal.returns-then-is_empty
returns-then-is_empty g c key before same is =
    let none = eqb-true _ _ (sym c.is_empty.ensures ∙ c.if-is_empty.true) in
    IsIndexOf-none_plain key before c.args.registry.now.entries (map g.B.Bearing.bearing c.args.issues.now) c.args.self.now (no_items c.args.self.now.row_of.items (omega (arith, none, c.args.self.now.row_of.ok.0))) is

pub begin_all-requires-clause-within : goal.begin_all-requires-clause-within
begin_all-requires-clause-within g c =
    let bearings = map g.B.Bearing.bearing c.args.issues.now in
    let rows = c.args.self.now.rows.items in
    let row_of = c.args.self.now.row_of.items in
    subst (AreWithin c.as_slice.result.now) (sym c.leave_all.ensures.rows)
    (subst (λ (ns : List ℕ). AreWithin ns (map left rows)) (sym c.as_slice.ensures.value) (AreWithin-rows bearings (plain bearings) (map left rows) row_of (AreRows-left bearings (plain bearings) rows row_of c.requires)))

pub count_all-requires-clause-within : goal.count_all-requires-clause-within
count_all-requires-clause-within g c =
    let withdrawn = is_withdrawn c.args.registry.now.entries in
    let bearings = map g.B.Bearing.bearing c.args.issues.now in
    let rows = c.args.self.now.rows.items in
    let row_of = c.args.self.now.row_of.items in
    let begun_rows = each_changed (begun_by c.args.number) row_of (plain bearings) (map left rows) in
    let rows_begun : c.begin_all.new.rows.items ≡ begun_rows = c.begin_all.ensures.rows
    ∙ (ap (λ (ns : List ℕ). each_changed (begun_by c.args.number) ns (plain bearings) c.leave_all.new.rows.items) c.as_slice.ensures.value
    ∙ ap (λ (rs : List Row). each_changed (begun_by c.args.number) row_of (plain bearings) rs) c.leave_all.ensures.rows) in
    subst (AreWithin c.as_slice-2.result.now) (sym rows_begun)
    (subst (λ (ns : List ℕ). AreWithin ns begun_rows) (sym c.as_slice-2.ensures.value)
    (AreWithin-rows bearings (plain bearings) begun_rows row_of (AreRows-begun withdrawn c.args.number bearings (plain bearings) rows row_of c.requires)))

pub returns : goal.returns
returns g c key before same is =
    let withdrawn = is_withdrawn c.args.registry.now.entries in
    let bearings = map g.B.Bearing.bearing c.args.issues.now in
    let rows = c.args.self.now.rows.items in
    let row_of = c.args.self.now.row_of.items in
    let rows_begun : c.begin_all.new.rows.items ≡ each_changed (begun_by c.args.number) row_of (plain bearings) (map left rows) = c.begin_all.ensures.rows
    ∙ (ap (λ (ns : List ℕ). each_changed (begun_by c.args.number) ns (plain bearings) c.leave_all.new.rows.items) c.as_slice.ensures.value
    ∙ ap (λ (rs : List Row). each_changed (begun_by c.args.number) row_of (plain bearings) rs) c.leave_all.ensures.rows) in
    IsIndexOf-recounted key c.args.number before c.args.registry.now.entries bearings c.args.self.now _ same
    (c.count_all.ensures.rows
    ∙ (ap (λ (ns : List ℕ). each_changed (counted_anew withdrawn) ns (plain bearings) c.begin_all.new.rows.items) c.as_slice-2.ensures.value
    ∙ ap (λ (rs : List Row). each_changed (counted_anew withdrawn) row_of (plain bearings) rs) rows_begun))
    refl (λ front. refl) is
