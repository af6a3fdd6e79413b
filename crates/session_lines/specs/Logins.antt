-- What is told of a turn, and who is logged in after it (this project's own).
use Rattle.std.specs.Prelude.{ℕ, List, Option, Some, None, if◌then◌else◌}
use Rattle.line_wire.specs.declared.reply.LineReply.{LineReply}
use Rattle.session_history.specs.declared.request.TurnRequest.{TurnRequest}
use Rattle.session_history.specs.declared.request.TurnRequest.TheVariants.{Step, Cite, Checkpoint, Login}
use Rattle.session_history.specs.declared.reply.TurnReply.{TurnReply}
use Rattle.session_history.specs.declared.reply.TurnReply.TheVariants as turn_replies
use Rattle.session_history.specs.Placed.{is_done}

-- the reply of a turn that can be told: no statements
abbrev pub IsTellable : TurnReply → Type 0
IsTellable (turn_replies.Step reply) = Unit {0}
IsTellable (turn_replies.Cited cites) = ⊥
IsTellable turn_replies.LoggedIn = Unit {0}
IsTellable turn_replies.Checkpointed = Unit {0}
IsTellable turn_replies.Full = Unit {0}
IsTellable turn_replies.Stopped = Unit {0}
IsTellable turn_replies.NoMemory = Unit {0}

-- who is to be logged in, if somebody is
abbrev pub login_name : TurnRequest → Option (List ℕ)
login_name (Step request) = None
login_name (Cite numbers) = None
login_name Checkpoint = None
login_name (Login who nonce signature) = Some who

abbrev pub name_or : Option (List ℕ) → Option (List ℕ) → Option (List ℕ)
name_or caller None = caller
name_or caller (Some who) = Some who

-- who is logged in after a turn
abbrev pub caller_after : Option (List ℕ) → TurnRequest → LineReply → Option (List ℕ)
caller_after caller request reply = if is_done reply then name_or caller (login_name request) else caller
