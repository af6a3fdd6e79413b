-- What a request asks of a store, and what is replied to the client for what the store says (this
-- project's own).
use Rattle.std.specs.Prelude.{◌≡◌, ℕ, List, [], ◌∷◌, Some}
use Rattle.bl_syntax.specs.declared.terms.NodeId.{NodeId}
use Rattle.file_world.specs.declared.operation.Op.{Op}
use Rattle.file_world.specs.declared.operation.Op.TheVariants as operations
use Rattle.file_world.specs.declared.reply.TreeReply.{TreeReply}
use Rattle.file_world.specs.declared.reply.TreeReply.TheVariants as trees
use Rattle.file_world.specs.declared.reply.OpReply.{OpReply}
use Rattle.file_world.specs.declared.reply.OpReply.TheVariants as replies_of_operations
use Rattle.procap.specs.declared.procap.Procap.{Procap}
use Rattle.access_history.specs.declared.request.StepRequest.TheVariants.{Act}
use Rattle.access_history.specs.declared.reply.StepReply.{StepReply}
use Rattle.access_history.specs.declared.reply.StepReply.TheVariants as step_replies
use Rattle.line_wire.specs.declared.reply.LineReply.TheVariants as lines
use Rattle.line_wire.specs.ReplyText.{reply_text, step_text}
use Rattle.line_wire.specs.OperationText.{operation_text}
use Rattle.session_history.specs.declared.request.TurnRequest.{TurnRequest}
use Rattle.session_history.specs.declared.request.TurnRequest.TheVariants as requests
use Rattle.session_history.specs.declared.reply.TurnReply.{TurnReply}
use Rattle.session_history.specs.declared.reply.TurnReply.TheVariants as turn_replies
use Rattle.nine_messages.specs.Requests.{RequestView, tversion, tattach, tflush, twalk, topen, tread, twrite, tclunk, tother}
use Rattle.nine_messages.specs.Replies.{ReplyView, rread, rwrite, rerror}
use Rattle.nine_fids.specs.declared.connection.Connection.{Connection}
use Rattle.nine_fids.specs.declared.step.Step.{Step}
use Rattle.nine_fids.specs.declared.step.Step.TheVariants as steps

-- ---- what is asked

-- one operation under one procap
abbrev pub act_of : List ℕ → Op → Procap → TurnRequest
act_of who op p = requests.Step (Act who op (p ∷ []))

-- the bytes that a request writes
abbrev pub bytes_of : RequestView → List ℕ
bytes_of (tversion msize version) = []
bytes_of (tattach fid afid uname aname) = []
bytes_of (tflush oldtag) = []
bytes_of (twalk fid newfid names) = []
bytes_of (topen fid mode) = []
bytes_of (tread fid offset count) = []
bytes_of (twrite fid offset bytes) = bytes
bytes_of (tclunk fid) = []
bytes_of (tother kind body) = []

-- this principal is logged in and asks for that
abbrev pub IsAct : Connection → Op → Procap → TurnRequest → Type 0
IsAct s op p request = (who : List ℕ) × (s.caller ≡ Some who) × (request ≡ act_of who op p)

-- The turn that a step of a request is: a reading, a writing or a login, over the nonce of the
-- connection. Other steps are no turn, or more than one.
abbrev pub IsTurnOf : Connection → RequestView → Step → TurnRequest → Type 0
IsTurnOf s m (steps.Refused error) request = ⊥
IsTurnOf s m (steps.Answered answer) request = ⊥
IsTurnOf s m (steps.Login who signature) request = request ≡ requests.Login who s.nonce signature
IsTurnOf s m (steps.Read node p offset len) request = IsAct s (operations.Read node offset len) p request
IsTurnOf s m (steps.Write node p offset) request = IsAct s (operations.Write node offset (bytes_of m)) p request
IsTurnOf s m (steps.Walk node) request = ⊥

-- the lookup of a name of a walk
abbrev pub look_of : List ℕ → NodeId → List ℕ → Procap → TurnRequest
look_of who directory name p = act_of who (operations.Lookup directory name) p

-- ---- what is replied

-- the reply to an operation: what was read, or how many bytes were written; a text for what no
-- operation of this front replies
abbrev pub tree_reply_view : ℕ → TreeReply → ReplyView
tree_reply_view count trees.Done = rwrite count
tree_reply_view count (trees.Bytes bytes) = rread bytes
tree_reply_view count (trees.Names names) = rerror (operation_text (replies_of_operations.Tree (trees.Names names)))
tree_reply_view count (trees.Node node) = rerror (operation_text (replies_of_operations.Tree (trees.Node node)))

abbrev pub operation_reply_view : ℕ → OpReply → ReplyView
operation_reply_view count (replies_of_operations.Tree reply) = tree_reply_view count reply
operation_reply_view count (replies_of_operations.Meta reply) = rerror (operation_text (replies_of_operations.Meta reply))

abbrev pub step_reply_view : ℕ → StepReply → ReplyView
step_reply_view count (step_replies.Statement number) = rerror (step_text (step_replies.Statement number))
step_reply_view count step_replies.Withdrawn = rerror (step_text step_replies.Withdrawn)
step_reply_view count (step_replies.Issue number times states) = rerror (step_text (step_replies.Issue number times states))
step_reply_view count (step_replies.Procap p) = rerror (step_text (step_replies.Procap p))
step_reply_view count (step_replies.Operation reply) = operation_reply_view count reply
step_reply_view count (step_replies.Denied denial) = rerror (step_text (step_replies.Denied denial))
step_reply_view count (step_replies.Refused refusal at) = rerror (step_text (step_replies.Refused refusal at))
step_reply_view count (step_replies.Rejected rejection) = rerror (step_text (step_replies.Rejected rejection))
step_reply_view count (step_replies.Absent number) = rerror (step_text (step_replies.Absent number))

-- The reply to a request that wrote so many bytes, by what its turn replies. Statements are told to
-- nobody.
abbrev pub IsReplyTo : ℕ → TurnReply → ReplyView → Type 0
IsReplyTo count (turn_replies.Step reply) view = view ≡ step_reply_view count reply
IsReplyTo count (turn_replies.Cited cites) view = ⊥
IsReplyTo count turn_replies.LoggedIn view = view ≡ rwrite count
IsReplyTo count turn_replies.Checkpointed view = view ≡ rerror (reply_text lines.Checkpointed)
IsReplyTo count turn_replies.Full view = view ≡ rerror (reply_text lines.Full)
IsReplyTo count turn_replies.Stopped view = view ≡ rerror (reply_text lines.Stopped)
IsReplyTo count turn_replies.NoMemory view = view ≡ rerror (reply_text lines.NoMemory)

-- ---- who is logged in then

abbrev pub after_login : Connection → List ℕ → TurnReply → Connection
after_login s who (turn_replies.Step reply) = s
after_login s who (turn_replies.Cited cites) = s
after_login s who turn_replies.LoggedIn = record s { caller = Some who }
after_login s who turn_replies.Checkpointed = s
after_login s who turn_replies.Full = s
after_login s who turn_replies.Stopped = s
after_login s who turn_replies.NoMemory = s

-- an accepted login changes who is logged in; no turn changes anything else
abbrev pub after_turn : Connection → Step → TurnReply → Connection
after_turn s (steps.Refused error) replied = s
after_turn s (steps.Answered answer) replied = s
after_turn s (steps.Login who signature) replied = after_login s who replied
after_turn s (steps.Read node p offset len) replied = s
after_turn s (steps.Write node p offset) replied = s
after_turn s (steps.Walk node) replied = s
