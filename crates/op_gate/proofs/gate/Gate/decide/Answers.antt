-- What was decided can be kept, and fits the fields of its record.
use Rattle.std.proofs.Common.{◌≤◌, ◌∙◌, subst, sym, Option}
use Rattle.std.specs.Prelude.{ℤ, ⊤, MatchOption}
use Rattle.std.specs.Int.{w64}
use Rattle.std.proofs.lemmas.Int.{to_z-of_z}
use Rattle.access_history.specs.History.{authority_of, state_of}
use Rattle.access_history.specs.Lawful.{IsLawfulBase}
use Rattle.access_history.proofs.LawfulLemmas.{IsLawfulBase-lawful}
use Rattle.op_gate.specs.declared.planned.DecisionPlan.TheVariants.{Keep}
use Rattle.op_gate.specs.declared.planned.Recorded.{Recorded}
use Rattle.op_gate.specs.Decision.{IsPlanned, CanKeep}
use Rattle.op_gate.specs.Recording.{CanKeepRecorded}
use Rattle.op_gate.proofs.KeepLemmas.{CanKeep-planned, CanKeep-recorded, fits_kept, on_no_err}
use Rattle.op_gate.proofs.gate.Gate.decide.Goals as goal

pub with_record-requires : goal.with_record-requires
with_record-requires c =
    let before = c.reserve.new.self in
    let after = c.decide_request.new.history in
    let room = on_no_err (1 ≤ before.room) c.reserve.result (sym c.is_err.ensures.value ∙ c.if-is_err.false) c.reserve.ensures.room in
    let base : IsLawfulBase (authority_of before) (state_of before) = IsLawfulBase-lawful (authority_of before) before.base before.events c.lemma_is_lawful.ensures in
    let planned = subst (λ (z : ℤ). IsPlanned before c.args.pass z c.args.request (Keep c.in-Keep.reply c.in-Keep.pending) after) (to_z-of_z w64 c.args.clock c.ranges.clock) c.in-Keep.ensures.planned in
    let keeps : CanKeep after c.in-Keep.pending =
    CanKeep-planned before after c.args.pass c.args.clock c.args.request c.in-Keep.reply c.in-Keep.pending c.decide_request.ensures.same room base c.requires.in_range c.requires.well_formed planned in
    fits_kept after c.in-Keep.pending keeps

pub invariant_of-self-in-Ok : goal.invariant_of-self-in-Ok
invariant_of-self-in-Ok c =
    let before = c.reserve.new.self in
    let after = c.decide_request.new.history in
    let room = on_no_err (1 ≤ before.room) c.reserve.result (sym c.is_err.ensures.value ∙ c.if-is_err.false) c.reserve.ensures.room in
    let base : IsLawfulBase (authority_of before) (state_of before) = IsLawfulBase-lawful (authority_of before) before.base before.events c.lemma_is_lawful.ensures in
    let planned = subst (λ (z : ℤ). IsPlanned before c.args.pass z c.args.request (Keep c.in-Keep.reply c.in-Keep.pending) after) (to_z-of_z w64 c.args.clock c.ranges.clock) c.in-Keep.ensures.planned in
    let keeps : CanKeep after c.in-Keep.pending =
    CanKeep-planned before after c.args.pass c.args.clock c.args.request c.in-Keep.reply c.in-Keep.pending c.decide_request.ensures.same room base c.requires.in_range c.requires.well_formed planned in
    subst (λ (p : Option Recorded). MatchOption p ⊤ (CanKeepRecorded after)) (sym c.put.ensures) (CanKeep-recorded after c.in-Keep.pending c.in-Ok.recorded keeps c.in-Ok.ensures)
