-- Each issue is looked at.
use Rattle.std.proofs.Common.{◌+◌, ◌≤◌, List, arith, length, subst, sym}
use Rattle.access_history.specs.declared.event.Issue.{Issue}
use Rattle.std.specs.Prelude.{ℤ}
use Rattle.std.specs.Int.{w64}
use Rattle.std.proofs.lemmas.Int.{to_z-of_z}
use mir.Val.{of_z, to_z}
use Rattle.access_history.specs.History.{state_of}
use Rattle.history_table.specs.WhoMay.{AreAdmitting}
use Rattle.history_table.proofs.WhoMayLemmas.{AreFirst, all_first, next_first, none_first}
use Rattle.history_table.proofs.admitting.admitting_at.Goals as goal

pub loop-place-init : goal.loop-place-init
loop-place-init c =
    let state = state_of c.args.history.now in
    let moment : ℤ = to_z w64 (of_z w64 c.args.moment) in
    subst (AreFirst state c.args.file c.args.permission moment 0) (sym c.new-numbers.ensures) (none_first state c.args.file c.args.permission moment)

pub loop-place-preserved : goal.loop-place-preserved
loop-place-preserved c =
    let state = state_of c.args.history.now in
    let moment : ℤ = to_z w64 (of_z w64 c.args.moment) in
    next_first state c.args.file c.args.permission moment c.loop-place.place (c.loop-place.place + 1) (c.loop-place.place + 1) c.index-issues-place.result c.issues-issues.result.now c.loop-place.numbers c.add_admitting.new.numbers
    c.issues-issues.ensures c.loop-place-test.true (omega arith) (omega arith) c.index-issues-place.is c.in_ok-add_admitting.ensures c.loop-place.invariant

pub returns : goal.returns
returns c =
    let state = state_of c.args.history.now in
    let moment : ℤ = to_z w64 (of_z w64 c.args.moment) in
    subst (λ (z : ℤ). AreAdmitting state c.args.file c.args.permission z c.loop-place.numbers) (to_z-of_z w64 c.args.moment c.ranges.moment)
    (all_first state c.args.file c.args.permission moment c.loop-place.place c.loop-place.numbers
    (subst (λ (issues : List Issue). length issues ≤ c.loop-place.place) c.issues-issues.ensures (omega (arith, c.loop-place-test.false))) c.loop-place.invariant)
