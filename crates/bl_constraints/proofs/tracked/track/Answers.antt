use Rattle.std.proofs.Common.{◌∙◌, sym}
use Rattle.std.proofs.lemmas.Bool.{false≢true}
use Rattle.std.specs.Prelude.{◌↔◌, IsTrue, [], ◌∷◌, ◌++◌}
use Rattle.bl_syntax.specs.Entailment.{IsContradictory}
use Rattle.bl_constraints.specs.Reached.{constraints_of}
use Rattle.bl_constraints.proofs.ConstantLemmas.{contradictory_before, contradictory_now}
use Rattle.bl_constraints.proofs.tracked.track.Goals.{then-contradict, else-contradict}
use Rattle.bl_constraints.proofs.tracked.track.Goals as goal

pub returns-clause-tracked : goal.returns-clause-tracked
returns-clause-tracked c =
    let psi = constraints_of c.args.items.now in
    let d = c.args.c.now in
    let latest = c.latest_start-latest.result in
    let earliest = c.earliest_end-earliest.result in
    let contradicts : IsTrue c.if-contradict.result ↔ IsContradictory (psi ++ d ∷ []) =
    elim c.if-contradict.branch [
      | then-contradict w ↦ contradictory_before psi d latest earliest c.latest_start-latest.ensures c.earliest_end-earliest.ensures c.contradict.result c.if-contradict.result c.contradict.ensures w.if-contradict.true (w.result-is ∙ w.if-contradict.true)
      | else-contradict w ↦ contradictory_now psi d latest earliest c.latest_start-latest.ensures c.earliest_end-earliest.ensures c.contradict.result w.is_up_to.result c.if-contradict.result c.contradict.ensures (λ t. absurd (false≢true (sym w.if-contradict.false ∙ t))) w.is_up_to.ensures w.result-is
    ] in
    record { before = c.places_before-before.ensures; after = c.places_after-after.ensures; contradicts = contradicts }
