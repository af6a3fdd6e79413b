-- Each issue is added after those before it.
use Rattle.std.proofs.Common.{◌≡◌, ◌-◌, ◌++◌, ◌∷◌, [], ℕ, List, map, subst, sym, take, arith}
use Rattle.std.proofs.lemmas.List.{take_all}
use Rattle.issue_standings.specs.Bearing.{BearingView}
use Rattle.issue_standings.specs.Index.{IsIndexOf}
use Rattle.issue_standings.proofs.IndexLemmas.{IsIndexOf-same}
use Rattle.issue_standings.proofs.ReadingLemmas.{bearings_more}
use Rattle.issue_standings.proofs.standings.Standings.from_issues.Goals as goal

pub loop-place-init : goal.loop-place-init
loop-place-init g c = c.new-standings.ensures c.args.key.now c.args.registry.now.entries

pub add_read-requires-clause-index : goal.add_read-requires-clause-index
add_read-requires-clause-index g c =
    let same : c.loop-place.place - 0 ≡ c.loop-place.place = omega arith in
    subst (λ (n : ℕ). IsIndexOf c.args.key.now c.args.registry.now.entries (map g.B.Bearing.bearing (take n c.args.issues.now)) c.reserve.new.self) (sym same)
    (IsIndexOf-same c.args.key.now c.args.registry.now.entries (map g.B.Bearing.bearing (take c.loop-place.place c.args.issues.now)) c.loop-place.standings c.reserve.new.self c.reserve.ensures.same c.loop-place.invariant)

pub loop-place-preserved : goal.loop-place-preserved
loop-place-preserved g c =
    let same : c.loop-place.place - 0 ≡ c.loop-place.place = omega arith in
    subst (λ (bs : List BearingView). IsIndexOf c.args.key.now c.args.registry.now.entries bs c.add_read.new.self) (sym (bearings_more g.B.Bearing.bearing c.args.issues.now c.loop-place.place c.index-issues-place.result c.loop-place-test.true c.index-issues-place.is))
    (subst (λ (n : ℕ). IsIndexOf c.args.key.now c.args.registry.now.entries (map g.B.Bearing.bearing (take n c.args.issues.now) ++ g.B.Bearing.bearing c.index-issues-place.result ∷ []) c.add_read.new.self) same c.in_ok-add_read.ensures)

pub returns : goal.returns
returns g c =
    subst (λ xs. IsIndexOf c.args.key.now c.args.registry.now.entries (map g.B.Bearing.bearing xs) c.loop-place.standings) (take_all c.loop-place.place c.args.issues.now c.loop-place-test.false) c.loop-place.invariant
