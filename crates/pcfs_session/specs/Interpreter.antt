-- What an interpreter does with requests and commands.
use Rattle.std.specs.Prelude.{◌≡◌, Option}
use Rattle.journal_records.specs.declared.event.Event.{Event}
use Rattle.access_history.specs.declared.request.StepRequest.{StepRequest}
use Rattle.access_history.specs.declared.reply.StepReply.{StepReply}
use Rattle.access_history.specs.Answer.{Answers}
use Rattle.line_forms.specs.declared.command.Command.{Command}
use Rattle.line_forms.specs.declared.fault.LineFault.{LineFault}
use Rattle.line_forms.specs.declared.fault.LineFault.TheVariants as line_faults
use Rattle.line_wire.specs.declared.reply.LineReply.{LineReply}
use Rattle.line_wire.specs.declared.reply.LineReply.TheVariants as replies
use Rattle.pcfs_store.specs.declared.reply.StoreReply.{StoreReply}
use Rattle.pcfs_store.specs.declared.reply.StoreReply.TheVariants as stores
use Rattle.std.specs.Option.{option_map}
use Rattle.pcfs_store.specs.declared.reply.CheckpointReply.{CheckpointReply}
use Rattle.pcfs_store.specs.declared.reply.CheckpointReply.TheVariants as checkpoints
use Rattle.pcfs_store.specs.Entries.{StoreEntry, happened}
use Rattle.pcfs_session.specs.ScriptContext.{asker_after}
use Rattle.pcfs_session.specs.LineAnswer.{authority_under, AnswersCommand}
use Rattle.pcfs_session.specs.ScriptRun.{ScriptState, state_of_standing, Becomes}

-- the request is answered, and this becomes of the answer
pub record IsDecidedAs (request : StepRequest) (before : ScriptState) (reply : LineReply) (after : ScriptState) : Type 0 where
  pub told : StepReply
  pub event : Option Event
  pub answer : Answers (authority_under before.secrets) (state_of_standing before) before.asker.pass before.asker.clock request told event
  pub becomes : Becomes before (replies.Step told) before.asker (option_map happened event) reply after

-- the command is answered, and this becomes of the answer
pub record IsFollowed (command : Command) (before : ScriptState) (reply : LineReply) (after : ScriptState) : Type 0 where
  pub told : LineReply
  pub entry : Option StoreEntry
  pub answer : AnswersCommand before.secrets (state_of_standing before) before.asker command told entry
  pub becomes : Becomes before told (asker_after before.asker command) entry reply after

-- what is returned to a line for which a checkpoint of the store says this; nothing is, if memory
-- ran out
abbrev pub IsToldOfCheckpoint : CheckpointReply → LineReply → Type 0
IsToldOfCheckpoint checkpoints.Checkpointed told = told ≡ replies.Checkpointed
IsToldOfCheckpoint checkpoints.Full told = told ≡ replies.Full
IsToldOfCheckpoint checkpoints.Stopped told = told ≡ replies.Stopped
IsToldOfCheckpoint checkpoints.NoMemory told = ⊥

-- what is returned to a line for which the store says this; nothing is, if memory ran out
abbrev pub IsToldAs : StoreReply → LineReply → Type 0
IsToldAs (stores.Step reply) told = told ≡ replies.Step reply
IsToldAs stores.Full told = told ≡ replies.Full
IsToldAs stores.Stopped told = told ≡ replies.Stopped
IsToldAs stores.NoMemory told = ⊥

-- what is returned to a line that was not read: its fault, or that memory ran out
abbrev pub unread_reply : LineFault → LineReply
unread_reply line_faults.NoMemory = replies.NoMemory
unread_reply (line_faults.BadWord place) = replies.Faulty (line_faults.BadWord place)
unread_reply line_faults.BadCount = replies.Faulty line_faults.BadCount
unread_reply (line_faults.BadText fault) = replies.Faulty (line_faults.BadText fault)
