use Rattle.std.proofs.Common.{◌+◌, ◌∙◌, get_or, sym, subst, arith}
use Rattle.std.proofs.lemmas.Bool.{false≢true}
use Rattle.std.proofs.lemmas.List.{length-map}
use Rattle.bl_syntax.specs.declared.terms.TimePoint.{TimePoint}
use Rattle.bl_constraints.specs.declared.tracked.Tracked.{Tracked}
use Rattle.bl_constraints.specs.Reached.{constraints_of}
use Rattle.bl_constraints.proofs.ReachedLemmas.{is_itself, constraint_stands}
use Rattle.bl_constraints.proofs.ConstantLemmas.{IsLatestSoFar, latest_first, latest_skip, latest_more, latest_all}
use Rattle.bl_constraints.proofs.constants.latest_start.Goals.{then-has, else-has}
use Rattle.bl_constraints.proofs.constants.latest_start.Goals as goal

pub loop-place-init : goal.loop-place-init
loop-place-init c = latest_first (constraints_of c.args.items.now) c.args.t.now c.args.before.now.words c.start_of-latest.result c.start_of-latest.ensures.linked c.start_of-latest.ensures.constant

pub loop-place-preserved : goal.loop-place-preserved
loop-place-preserved c =
    let items = c.args.items.now in
    let place = c.loop-place.place in
    let t = c.args.t.now in
    let words = c.args.before.now.words in
    let within = c.loop-place-test.true in
    elim c.if-has.branch [
      | then-has w ↦
          subst (λ (point : TimePoint). IsLatestSoFar (constraints_of items) t words (place + 1) point) (sym w.latest-is)
          (latest_more (constraints_of items) t words c.requires.before place (get_or items place w.index-items-place.result).constraint
          (constraint_stands items place (get_or items place w.index-items-place.result) within (is_itself items place w.index-items-place.result within))
          c.loop-place.latest c.loop-place.invariant w.start_of.result w.later_of-latest.result (c.has.ensures.0 w.if-has.true) w.start_of.ensures.linked w.start_of.ensures.constant
          w.later_of-latest.ensures.either w.later_of-latest.ensures.first w.later_of-latest.ensures.second)
      | else-has w ↦
          subst (λ (point : TimePoint). IsLatestSoFar (constraints_of items) t words (place + 1) point) (sym w.latest-is)
          (latest_skip (constraints_of items) t words place c.loop-place.latest c.loop-place.invariant (λ h. absurd (false≢true (sym w.if-has.false ∙ c.has.ensures.1 h))))
    ]

pub returns : goal.returns
returns c =
    let items = c.args.items.now in
    latest_all (constraints_of items) c.args.t.now c.args.before.now.words c.loop-place.place c.loop-place.latest c.requires.before (omega (arith, length-map items (λ (x : Tracked). x.constraint))) c.loop-place.invariant
