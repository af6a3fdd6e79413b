-- Which replies an Rerror can hold, whose text has fewer than 65,536 bytes (this project's own).
use Rattle.std.specs.Prelude.{◌≤◌, ℕ, length, Bool, true, false}
use Rattle.bl_syntax.specs.declared.limits.TheConstants.{LONGEST_TEXT}
use Rattle.bl_syntax.specs.declared.terms.Term.{Term}
use Rattle.bl_syntax.specs.declared.terms.Term.TheVariants as terms
use Rattle.bl_syntax.specs.declared.terms.StatePred.{StatePred}
use Rattle.bl_syntax.specs.declared.terms.StatePred.TheVariants as state_preds
use Rattle.file_world.specs.declared.operation.Op.{Op}
use Rattle.file_world.specs.declared.reply.TreeReply.{TreeReply}
use Rattle.file_world.specs.declared.reply.TreeReply.TheVariants as trees
use Rattle.file_world.specs.declared.reply.OpReply.{OpReply}
use Rattle.file_world.specs.declared.reply.OpReply.TheVariants as replies_of_operations
use Rattle.file_world.specs.Effect.{reply}
use Rattle.file_world.specs.World.{World}
use Rattle.access_history.specs.declared.request.StepRequest.{StepRequest}
use Rattle.access_history.specs.declared.request.StepRequest.TheVariants as step_requests
use Rattle.access_history.specs.declared.reply.DenialCause.{DenialCause}
use Rattle.access_history.specs.declared.reply.DenialCause.TheVariants as causes
use Rattle.access_history.specs.declared.reply.StepReply.{StepReply}
use Rattle.access_history.specs.declared.reply.StepReply.TheVariants as step_replies
use Rattle.session_history.specs.declared.request.TurnRequest.{TurnRequest}
use Rattle.session_history.specs.declared.request.TurnRequest.TheVariants as requests
use Rattle.session_history.specs.declared.reply.TurnReply.{TurnReply}
use Rattle.session_history.specs.declared.reply.TurnReply.TheVariants as turn_replies

-- ---- names and texts in a condition

abbrev pub IsShortTerm : Term → Type 0
IsShortTerm (terms.Prin name) = length name ≤ LONGEST_TEXT
IsShortTerm (terms.File number) = Unit {0}
IsShortTerm (terms.Perm permission) = Unit {0}
IsShortTerm (terms.Time point) = Unit {0}
IsShortTerm (terms.Text constant) = length constant ≤ LONGEST_TEXT
IsShortTerm terms.Ctime = Unit {0}
IsShortTerm (terms.Param n) = Unit {0}
IsShortTerm (terms.Bound n) = Unit {0}

abbrev pub IsShortState : StatePred → Type 0
IsShortState (state_preds.Owner file owner) = IsShortTerm file × IsShortTerm owner
IsShortState (state_preds.HasXattr file name value) = IsShortTerm file ×
    (IsShortTerm name × IsShortTerm value)
IsShortState (state_preds.InDir file directory) = IsShortTerm file × IsShortTerm directory

abbrev pub IsShortCause : DenialCause → Type 0
IsShortCause causes.Seal = Unit {0}
IsShortCause causes.Principal = Unit {0}
IsShortCause causes.File = Unit {0}
IsShortCause causes.Permission = Unit {0}
IsShortCause (causes.Time place c) = IsShortTerm c.low × IsShortTerm c.high
IsShortCause (causes.State place s) = IsShortState s
IsShortCause (causes.Withdrawn number) = Unit {0}

-- the names and texts in a denial are short
abbrev pub HasShortNames : StepReply → Type 0
HasShortNames (step_replies.Statement number) = Unit {0}
HasShortNames step_replies.Withdrawn = Unit {0}
HasShortNames (step_replies.Issue number times states) = Unit {0}
HasShortNames (step_replies.Procap p) = Unit {0}
HasShortNames (step_replies.Operation reply) = Unit {0}
HasShortNames (step_replies.Denied denial) = IsShortCause denial.cause
HasShortNames (step_replies.Refused refusal at) = Unit {0}
HasShortNames (step_replies.Rejected rejection) = Unit {0}
HasShortNames (step_replies.Absent number) = Unit {0}

-- ---- what a turn of this front replies

-- it is what an operation returns
abbrev pub is_operation : StepReply → Bool
is_operation (step_replies.Statement number) = false
is_operation step_replies.Withdrawn = false
is_operation (step_replies.Issue number times states) = false
is_operation (step_replies.Procap p) = false
is_operation (step_replies.Operation reply) = true
is_operation (step_replies.Denied denial) = false
is_operation (step_replies.Refused refusal at) = false
is_operation (step_replies.Rejected rejection) = false
is_operation (step_replies.Absent number) = false

-- what was read has at most so many bytes; no list of names, and nothing of attributes
abbrev pub IsShortTree : ℕ → TreeReply → Type 0
IsShortTree most trees.Done = Unit {0}
IsShortTree most (trees.Bytes bytes) = length bytes ≤ most
IsShortTree most (trees.Names names) = ⊥
IsShortTree most (trees.Node node) = Unit {0}

abbrev pub IsShortOperation : ℕ → OpReply → Type 0
IsShortOperation most (replies_of_operations.Tree reply) = IsShortTree most reply
IsShortOperation most (replies_of_operations.Meta reply) = ⊥

-- the reply of an operation, or of a login
abbrev pub IsShortStep : ℕ → StepReply → Type 0
IsShortStep most (step_replies.Statement number) = ⊥
IsShortStep most step_replies.Withdrawn = ⊥
IsShortStep most (step_replies.Issue number times states) = ⊥
IsShortStep most (step_replies.Procap p) = ⊥
IsShortStep most (step_replies.Operation reply) = IsShortOperation most reply
IsShortStep most (step_replies.Denied denial) = Unit {0}
IsShortStep most (step_replies.Refused refusal at) = Unit {0}
IsShortStep most (step_replies.Rejected rejection) = Unit {0}
IsShortStep most (step_replies.Absent number) = ⊥

abbrev pub IsShortReply : ℕ → TurnReply → Type 0
IsShortReply most (turn_replies.Step reply) = IsShortStep most reply
IsShortReply most (turn_replies.Cited cites) = ⊥
IsShortReply most turn_replies.LoggedIn = Unit {0}
IsShortReply most turn_replies.Checkpointed = ⊥
IsShortReply most turn_replies.Full = Unit {0}
IsShortReply most turn_replies.Stopped = Unit {0}
IsShortReply most turn_replies.NoMemory = Unit {0}

-- ---- what it asks

-- whatever the world, the reply is short
abbrev pub IsShortlyDone : ℕ → Op → Type 0
IsShortlyDone most op = (world : World) → IsShortOperation most (reply world op)

abbrev pub IsShortAct : ℕ → StepRequest → Type 0
IsShortAct most (step_requests.Register statement signature) = ⊥
IsShortAct most (step_requests.Withdraw number signature) = ⊥
IsShortAct most (step_requests.Issue checked) = ⊥
IsShortAct most (step_requests.Act who op procaps) = IsShortlyDone most op
IsShortAct most (step_requests.ShowProcap number who) = ⊥

abbrev pub IsShortTurn : ℕ → TurnRequest → Type 0
IsShortTurn most (requests.Step request) = IsShortAct most request
IsShortTurn most (requests.Cite numbers) = ⊥
IsShortTurn most requests.Checkpoint = ⊥
IsShortTurn most (requests.Login who nonce signature) = Unit {0}
