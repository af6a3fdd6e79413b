use Rattle.std.proofs.Common.{◌+◌, ◌∙◌, take, sym, subst}
use Rattle.std.proofs.lemmas.Bool.{false≢true}
use Rattle.bl_constraints.specs.declared.places.Places.{Places}
use Rattle.bl_constraints.specs.Reached.{AreBefore, constraints_of}
use Rattle.bl_constraints.proofs.ReachedLemmas.{before_more, before_same}
use Rattle.bl_constraints.proofs.reaching.places_before.Goals.{then-leads_to, else-leads_to}
use Rattle.bl_constraints.proofs.reaching.places_before.Goals as goal

pub loop-place-preserved : goal.loop-place-preserved
loop-place-preserved c =
    let items = c.args.items.now in
    let place = c.loop-place.place in
    let t = c.args.t.now in
    let within = c.loop-place-test.true in
    let item = c.index-items-place.result in
    let is = c.index-items-place.is in
    elim c.if-leads_to.branch [
      | then-leads_to w ↦
          subst (λ (set : Places). AreBefore (take (place + 1) (constraints_of items)) t set.words) (sym w.leading-is)
          (before_more items place item within is c.requires t c.loop-place.leading.words w.insert.new.self.words w.add_all.new.self.words c.leads_to.result c.loop-place.invariant c.leads_to.ensures w.if-leads_to.true w.insert.ensures w.add_all.ensures)
      | else-leads_to w ↦
          subst (λ (set : Places). AreBefore (take (place + 1) (constraints_of items)) t set.words) (sym w.leading-is)
          (before_same items place item within is c.requires t c.loop-place.leading.words c.leads_to.result c.loop-place.invariant c.leads_to.ensures (λ t. absurd (false≢true (sym w.if-leads_to.false ∙ t))))
    ]
