use Rattle.std.proofs.Common.{◌+◌, ◌∙◌, get_or, sym, subst, arith}
use Rattle.std.proofs.lemmas.Bool.{false≢true}
use Rattle.std.proofs.lemmas.List.{length-map}
use Rattle.bl_syntax.specs.declared.terms.TimePoint.{TimePoint}
use Rattle.bl_constraints.specs.declared.tracked.Tracked.{Tracked}
use Rattle.bl_constraints.specs.Reached.{constraints_of}
use Rattle.bl_constraints.proofs.ReachedLemmas.{is_itself, constraint_stands}
use Rattle.bl_constraints.proofs.ConstantLemmas.{IsEarliestSoFar, earliest_first, earliest_skip, earliest_more, earliest_all}
use Rattle.bl_constraints.proofs.constants.earliest_end.Goals.{then-has, else-has}
use Rattle.bl_constraints.proofs.constants.earliest_end.Goals as goal

pub loop-place-init : goal.loop-place-init
loop-place-init c = earliest_first (constraints_of c.args.items.now) c.args.u.now c.args.after.now.words c.end_of-earliest.result c.end_of-earliest.ensures.linked c.end_of-earliest.ensures.constant

pub loop-place-preserved : goal.loop-place-preserved
loop-place-preserved c =
    let items = c.args.items.now in
    let place = c.loop-place.place in
    let u = c.args.u.now in
    let words = c.args.after.now.words in
    let within = c.loop-place-test.true in
    elim c.if-has.branch [
      | then-has w ↦
          subst (λ (point : TimePoint). IsEarliestSoFar (constraints_of items) u words (place + 1) point) (sym w.earliest-is)
          (earliest_more (constraints_of items) u words c.requires.after place (get_or items place w.index-items-place.result).constraint
          (constraint_stands items place (get_or items place w.index-items-place.result) within (is_itself items place w.index-items-place.result within))
          c.loop-place.earliest c.loop-place.invariant w.end_of.result w.earlier_of-earliest.result (c.has.ensures.0 w.if-has.true) w.end_of.ensures.linked w.end_of.ensures.constant
          w.earlier_of-earliest.ensures.either w.earlier_of-earliest.ensures.first w.earlier_of-earliest.ensures.second)
      | else-has w ↦
          subst (λ (point : TimePoint). IsEarliestSoFar (constraints_of items) u words (place + 1) point) (sym w.earliest-is)
          (earliest_skip (constraints_of items) u words place c.loop-place.earliest c.loop-place.invariant (λ h. absurd (false≢true (sym w.if-has.false ∙ c.has.ensures.1 h))))
    ]

pub returns : goal.returns
returns c =
    let items = c.args.items.now in
    earliest_all (constraints_of items) c.args.u.now c.args.after.now.words c.loop-place.place c.loop-place.earliest c.requires.after (omega (arith, length-map items (λ (x : Tracked). x.constraint))) c.loop-place.invariant
