-- Each plain issue is counted whose row is to be counted anew.
use Rattle.std.proofs.Common.{◌<◌, ◌+◌, ◌∙◌, ℕ, ap, length, sym, arith, rules}
use Rattle.std.proofs.lemmas.Grind.{common_steps}
use Rattle.policy_statement.specs.Registered.{spare_of}
use Rattle.policy_statement.specs.Withdrawal.{is_withdrawn}
use Rattle.issue_standings.specs.Rows.{counted_anew}
use Rattle.issue_standings.proofs.ReadingLemmas.{count_more, count_within, plain_to-named, row_within, rows_all, rows_next, rows_passed}
use Rattle.issue_standings.proofs.standings.count_all.Goals.{then-is_plain, else-is_plain}
use Rattle.issue_standings.proofs.standings.count_all.Goals as goal

pub bounds-row_of-seen : goal.bounds-row_of-seen
bounds-row_of-seen g c =
    let within = count_within g.B.Bearing.bearing c.args.issues.now c.loop-place.place c.index-issues-place.result c.loop-place-test.true c.index-issues-place.is (sym c.if-is_plain.ensures) in
    omega (arith, within, c.loop-place.invariant.seen, c.requires.each)

pub offset_bounds-row_of-seen : goal.offset_bounds-row_of-seen
offset_bounds-row_of-seen g c =
    let within = count_within g.B.Bearing.bearing c.args.issues.now c.loop-place.place c.index-issues-place.result c.loop-place-test.true c.index-issues-place.is (sym c.if-is_plain.ensures) in
    let below : c.loop-place.seen < length c.args.row_of.now = omega (arith, within, c.loop-place.invariant.seen, c.requires.each) in
    first_of (search rules, grind (arith, common_steps, below))

pub count_anew-requires : goal.count_anew-requires
count_anew-requires g c =
    let within = count_within g.B.Bearing.bearing c.args.issues.now c.loop-place.place c.index-issues-place.result c.loop-place-test.true c.index-issues-place.is (sym c.if-is_plain.ensures) in
    row_within g.B.Bearing.bearing (counted_anew (is_withdrawn c.args.registry.now.entries)) c.args.row_of.now c.args.issues.now c.args.rows.now.items c.loop-place.place c.loop-place.seen c.loop-place.rows.items c.requires.within
    (omega (arith, within, c.loop-place.invariant.seen, c.requires.each)) c.loop-place.invariant.rows

pub overflow_add-seen : goal.overflow_add-seen
overflow_add-seen g c =
    let within = count_within g.B.Bearing.bearing c.args.issues.now c.loop-place.place c.index-issues-place.result c.loop-place-test.true c.index-issues-place.is (sym c.if-is_plain.ensures) in
    let below : c.loop-place.seen < length c.args.row_of.now = omega (arith, within, c.loop-place.invariant.seen, c.requires.each) in
    first_of (search rules, grind (arith, common_steps, below))

pub loop-place-preserved : goal.loop-place-preserved
loop-place-preserved g c =
    let bearing = g.B.Bearing.bearing in
    let issue = c.index-issues-place.result in
    elim c.if-is_plain.branch [
      | then-is_plain w ↦ record {
        rows = rows_next g.B.Bearing.bearing (counted_anew (is_withdrawn c.args.registry.now.entries)) c.args.row_of.now c.args.issues.now c.args.rows.now.items c.loop-place.place c.loop-place.seen issue c.loop-place.rows.items c.if-is_plain.rows.items c.requires.each c.loop-place-test.true
            c.index-issues-place.is (sym w.if-is_plain.ensures) c.loop-place.invariant.seen c.loop-place.invariant.rows (ap (λ v. v.items) w.rows-is ∙ w.count_anew.ensures.rows);
        seen = w.seen-is ∙ (ap (λ (n : ℕ). n + 1) c.loop-place.invariant.seen
            ∙ sym (count_more bearing c.args.issues.now c.loop-place.place issue c.loop-place-test.true c.index-issues-place.is (sym w.if-is_plain.ensures)));
        spare = ap spare_of w.rows-is ∙ (w.count_anew.ensures.spare ∙ c.loop-place.invariant.spare);
      }
      | else-is_plain w ↦ record {
        rows = rows_passed g.B.Bearing.bearing (counted_anew (is_withdrawn c.args.registry.now.entries)) c.args.row_of.now c.args.issues.now c.args.rows.now.items c.loop-place.place issue c.if-is_plain.rows.items c.loop-place-test.true c.index-issues-place.is (sym w.if-is_plain.ensures)
            (ap (λ v. v.items) w.rows-is ∙ c.loop-place.invariant.rows);
        seen = w.seen-is ∙ (c.loop-place.invariant.seen
            ∙ sym (ap length (plain_to-named bearing c.args.issues.now c.loop-place.place issue c.loop-place-test.true c.index-issues-place.is (sym w.if-is_plain.ensures))));
        spare = ap spare_of w.rows-is ∙ c.loop-place.invariant.spare;
      }
    ]

pub returns-clause-rows : goal.returns-clause-rows
returns-clause-rows g c = rows_all g.B.Bearing.bearing (counted_anew (is_withdrawn c.args.registry.now.entries)) c.args.row_of.now c.args.issues.now c.args.rows.now.items c.loop-place.place c.loop-place.rows.items c.requires.each c.loop-place-test.false c.loop-place.invariant.rows
