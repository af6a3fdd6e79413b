-- What the gate decided, and what it keeps until the event is committed (this project's own).
use Rattle.std.specs.Prelude.{◌≡◌, ◌≤◌, ℕ, ℤ, List, Option, Some, None}
use Rattle.policy_statement.specs.Ring.{KeyView}
use Rattle.procap.specs.declared.procap.Procap.{Procap}
use Rattle.file_world.specs.declared.operation.Op.{Op}
use Rattle.file_world.specs.declared.refusal.OpFault.{OpFault}
use Rattle.file_world.specs.declared.refusal.OpFault.TheVariants as faults
use Rattle.file_world.specs.Needs.{needs}
use Rattle.journal_records.specs.declared.event.Event.{Event}
use Rattle.policy_statement.specs.declared.registry.WithdrawFault.{WithdrawFault}
use Rattle.policy_statement.specs.declared.registry.WithdrawFault.TheVariants as withdrawals
use Rattle.access_history.specs.declared.reply.Rejection.TheVariants as rejections
use Rattle.access_history.specs.declared.reply.Denial.{Denial}
use Rattle.access_history.specs.declared.reply.StepReply.{StepReply}
use Rattle.access_history.specs.declared.reply.StepReply.TheVariants as replies
use Rattle.access_history.specs.declared.request.StepRequest.{StepRequest}
use Rattle.access_history.specs.Base.{BaseView}
use Rattle.access_history.specs.Admission.{IsDenied}
use Rattle.access_history.specs.Answer.{Answers}
use Rattle.access_history.specs.History.{HistoryView, authority_of, state_of, addition_of, IsReadyFor}
use Rattle.access_history.specs.Lawful.{MayFollow}
use Rattle.op_gate.specs.declared.planned.DecisionPlan.{DecisionPlan}
use Rattle.op_gate.specs.declared.planned.DecisionPlan.TheVariants.{Answer, Keep, NoMemory}
use Rattle.op_gate.specs.declared.planned.Pending.{Pending}

-- the denial names the first need that is not met and the cause, and the number of the last event
abbrev pub IsDenial : List ℕ → BaseView → List ℕ → Op → List Procap → ℤ → Denial → Type 0
IsDenial key state caller op procaps moment denial =
    IsDenied key state caller procaps moment (needs state.world op) denial.need denial.cause ×
    (denial.at ≡ state.count)

-- the plan is this reply with this event, or out of memory
abbrev pub Keeps : StepReply → Event → DecisionPlan → Type 0
Keeps reply event (Answer told) = ⊥
Keeps reply event (Keep told pending) = (told ≡ reply) ×
    (pending ≡ record { event = event; addition = addition_of event })
Keeps reply event NoMemory = Unit {0}

-- what is reported of an operation without effect, after that many events
abbrev pub plan_of_fault : ℕ → OpFault → DecisionPlan
plan_of_fault count (faults.Refused why) = Answer (replies.Refused why count)
plan_of_fault count faults.NoMemory = NoMemory

-- what is answered to a withdrawal that the registry does not take
abbrev pub plan_of_withdrawal : ℕ → WithdrawFault → DecisionPlan
plan_of_withdrawal number withdrawals.Absent = Answer (replies.Absent number)
plan_of_withdrawal number withdrawals.BadSignature = Answer (replies.Rejected rejections.BadSignature)
plan_of_withdrawal number withdrawals.NoMemory = NoMemory

-- what is planned over a history is the answer, and the history after it is ready for the event
-- that the answer keeps
abbrev pub IsPlanned : HistoryView → ℕ → ℤ → StepRequest → DecisionPlan → HistoryView → Type 0
IsPlanned before pass clock request (Answer reply) after = Answers (authority_of before) (state_of before) pass clock request reply None
IsPlanned before pass clock request (Keep reply pending) after =
    Answers (authority_of before) (state_of before) pass clock request reply (Some pending.event) ×
    (pending.addition ≡ addition_of pending.event) × IsReadyFor after pending.event
IsPlanned before pass clock request NoMemory after = Unit {0}

-- a gate: the key of the seal, the ring of those whose signatures are accepted, the history's base
-- and events, and the event that is decided and not kept yet
pub record GateView : Type 0 where
  pub key : List ℕ
  pub ring : List KeyView
  pub base : BaseView
  pub events : List Event
  pub pending : Option Event

-- an event that can be kept: there is room, it may come next, what is kept beside it is its own,
-- and the world is ready for it
pub record CanKeep (h : HistoryView) (p : Pending) : Type 0 where
  pub room : 1 ≤ h.room
  pub lawful : MayFollow (authority_of h) (state_of h) p.event
  pub addition : p.addition ≡ addition_of p.event
  pub ready : IsReadyFor h p.event
