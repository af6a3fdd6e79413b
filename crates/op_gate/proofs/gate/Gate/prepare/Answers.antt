-- There is no number for the event, or it is pending and can be kept.
use Rattle.std.proofs.Common.{sym, subst, ap, ◌∙◌, Option, Some}
use Rattle.std.specs.Prelude.{⊤, MatchOption}
use Rattle.std.specs.Option.{option_map}
use Rattle.access_history.specs.History.{authority_with, state_of}
use Rattle.access_history.specs.Replay.{replay}
use Rattle.op_gate.specs.declared.planned.Recorded.{Recorded}
use Rattle.op_gate.specs.Decision.{GateView}
use Rattle.op_gate.specs.Recording.{CanKeepRecorded}
use Rattle.op_gate.proofs.AdmitLemmas.{lacks_next}
use Rattle.op_gate.proofs.KeepLemmas.{CanKeep-pending, CanKeep-recorded, fits_kept}
use Rattle.op_gate.proofs.gate.Gate.prepare.Goals as goal

pub returns-in-Err-clause-answer : goal.returns-in-Err-clause-answer
returns-in-Err-clause-answer c =
    lacks_next (authority_with c.args.self.now.key c.args.self.now.ring) (replay c.args.self.now.base c.args.self.now.events) (state_of c.self.inside.history) c.args.event c.in-Err.fault
    (ap (λ (g : GateView). replay g.base g.events) (c.self.view_is ∙ c.forget.ensures)) c.in-Err.ensures.err

pub with_record-requires : goal.with_record-requires
with_record-requires c =
    fits_kept c.admit.new.history c.in-Ok-admit.pending
    (CanKeep-pending c.reserve_next.new.history c.admit.new.history c.args.event c.in-Ok-admit.pending c.admit.ensures.same c.in-Ok.ensures.room c.in-Ok-admit.ensures.pending)

pub invariant_of-self : goal.invariant_of-self
invariant_of-self c =
    let after = c.admit.new.history in
    subst (λ (p : Option Recorded). MatchOption p ⊤ (CanKeepRecorded after)) (sym c.put.ensures)
    (CanKeep-recorded after c.in-Ok-admit.pending c.in-Ok-with_record.recorded
    (CanKeep-pending c.reserve_next.new.history c.admit.new.history c.args.event c.in-Ok-admit.pending c.admit.ensures.same c.in-Ok.ensures.room c.in-Ok-admit.ensures.pending) c.in-Ok-with_record.ensures)

pub returns-in-Ok-with_record-clause-pending : goal.returns-in-Ok-with_record-clause-pending
returns-in-Ok-with_record-clause-pending c =
    ap (option_map (λ (r : Recorded). r.kept)) c.put.ensures ∙ (ap (λ (r : Recorded). Some r.kept) c.in-Ok-with_record.ensures ∙ ap Some c.in-Ok-admit.ensures.pending.event_is)
