-- An event is admitted or not; other bytes are no event.
use Rattle.std.proofs.Common.{sym, ap, subst}
use Rattle.std.specs.Prelude.{Err}
use Rattle.op_gate.specs.declared.damage.AdmitFault.{AdmitFault}
use Rattle.op_gate.specs.Decision.{GateView}
use Rattle.recover.specs.Reading.{AdmitsPayload}
use Rattle.recover.proofs.PayloadLemmas.{admitted, not_read}
use Rattle.recover.proofs.reading.admit_payload.Goals as goal

pub returns-in-Ok-clause-answer : goal.returns-in-Ok-clause-answer
returns-in-Ok-clause-answer c =
    admitted c.args.gate.now c.admit_event.new.self c.args.payload.now c.in-Ok.event c.admit_event.result c.in-Ok.ensures.whole.found.0 c.in-Ok.ensures.whole.found.1
    c.admit_event.ensures.answer c.admit_event.ensures.kept c.admit_event.ensures.left_out

pub returns-in-Err-clause-answer : goal.returns-in-Err-clause-answer
returns-in-Err-clause-answer c =
    subst (λ (f : AdmitFault). AdmitsPayload c.args.gate.now c.args.payload.now (Err f) c.forget.new.self) (sym c.unread.ensures)
    (not_read c.args.gate.now c.forget.new.self c.args.payload.now c.in-Err.fault c.in-Err.ensures.whole (ap (λ (g : GateView). g.events) c.forget.ensures))
