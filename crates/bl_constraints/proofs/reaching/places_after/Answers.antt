use Rattle.std.proofs.Common.{◌+◌, ◌∙◌, take, sym, subst}
use Rattle.std.proofs.lemmas.Bool.{false≢true}
use Rattle.bl_constraints.specs.declared.places.Places.{Places}
use Rattle.bl_constraints.specs.Reached.{AreAfter, constraints_of}
use Rattle.bl_constraints.proofs.ReachedLemmas.{after_more, after_same}
use Rattle.bl_constraints.proofs.reaching.places_after.Goals.{then-is_led_to, else-is_led_to}
use Rattle.bl_constraints.proofs.reaching.places_after.Goals as goal

pub loop-place-preserved : goal.loop-place-preserved
loop-place-preserved c =
    let items = c.args.items.now in
    let place = c.loop-place.place in
    let u = c.args.u.now in
    let within = c.loop-place-test.true in
    let item = c.index-items-place.result in
    let is = c.index-items-place.is in
    elim c.if-is_led_to.branch [
      | then-is_led_to w ↦
          subst (λ (set : Places). AreAfter (take (place + 1) (constraints_of items)) u set.words) (sym w.reached-is)
          (after_more items place item within is c.requires u c.loop-place.reached.words w.insert.new.self.words w.add_all.new.self.words c.is_led_to.result c.loop-place.invariant c.is_led_to.ensures w.if-is_led_to.true w.insert.ensures w.add_all.ensures)
      | else-is_led_to w ↦
          subst (λ (set : Places). AreAfter (take (place + 1) (constraints_of items)) u set.words) (sym w.reached-is)
          (after_same items place item within is c.requires u c.loop-place.reached.words c.is_led_to.result c.loop-place.invariant c.is_led_to.ensures (λ t. absurd (false≢true (sym w.if-is_led_to.false ∙ t))))
    ]
