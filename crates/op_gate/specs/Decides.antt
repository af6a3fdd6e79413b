-- What a decision of the gate says (this project's own).
use Rattle.std.specs.Prelude.{◌≡◌, ℕ, ℤ, Option, Some, None}
use Rattle.journal_records.specs.declared.event.Event.{Event}
use Rattle.access_history.specs.Base.{BaseView}
use Rattle.op_gate.specs.declared.gate.Decision.{Decision}
use Rattle.op_gate.specs.declared.gate.Decision.TheVariants.{Answer, Keep, NoMemory}
use Rattle.access_history.specs.declared.request.StepRequest.{StepRequest}
use Rattle.access_history.specs.Answer.{Answers}
use Rattle.access_history.specs.Authority.{Authority}

-- the decision is the answer to the request, and the event that the answer keeps is pending
abbrev pub Decides : Authority → BaseView → ℕ → ℤ → StepRequest → Decision → Option Event → Type 0
Decides authority state pass clock request (Answer reply) pending = Answers authority state pass clock request reply None × (pending ≡ None)
Decides authority state pass clock request (Keep reply) pending = (event : Event) ×
    Answers authority state pass clock request reply (Some event) × (pending ≡ Some event)
Decides authority state pass clock request NoMemory pending = pending ≡ None
