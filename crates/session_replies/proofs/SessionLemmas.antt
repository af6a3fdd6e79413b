-- Each reply of a session stands on one line.
use Rattle.std.proofs.Common.{◌≡◌, ℕ, List, [], ◌∷◌, ◌++◌, map, Option, Some, None, sym, ap, ◌∙◌, append_assoc, subst}
use Rattle.std.specs.Prelude.{ℤ}
use Rattle.std.specs.List.{AllByRecursion}
use Rattle.bl_syntax.proofs.GrantLemmas.{AllByRecursion-push}
use Rattle.procap.specs.declared.procap.Procap.{Procap as Sealed}
use Rattle.file_world.specs.World.{IsWorld}
use Rattle.access_history.specs.Base.{BaseView}
use Rattle.access_history.specs.Lawful.{IsLawful}
use Rattle.line_text.specs.Greeting.{greeting_text}
use Rattle.line_text.specs.Lines.{lines_of}
use Rattle.line_words.specs.declared.procap_word.ProcapWord.TheVariants as words
use Rattle.line_forms.specs.declared.asked.Line.{Line}
use Rattle.line_forms.specs.declared.asked.Line.TheVariants as lines
use Rattle.line_forms.specs.declared.command.Command.{Command}
use Rattle.line_forms.specs.declared.command.Command.TheVariants.{At, As, Register, Withdraw, Procap, Checkpoint, Verify, Check, Do}
use Rattle.file_world.specs.declared.reply.TreeReply.TheVariants as trees
use Rattle.file_world.specs.declared.reply.OpReply.TheVariants.{Tree}
use Rattle.proof_verifier.specs.CheckedView.{checked_view}
use Rattle.access_history.specs.declared.request.StepRequest.TheVariants.{Issue}
use Rattle.access_history.specs.declared.reply.StepReply.TheVariants.{Operation}
use Rattle.line_wire.specs.declared.reply.LineReply.{LineReply}
use Rattle.line_wire.specs.declared.reply.LineReply.TheVariants as replies
use Rattle.line_wire.specs.ReplyText.{reply_text, output_of}
use Rattle.line_wire.specs.Unbroken.{IsUnbroken, IsUnbrokenStep, IsUnbrokenReply}
use Rattle.line_wire.proofs.LinesLemmas.{one_line, lines_of_output}
use Rattle.line_wire.proofs.UnbrokenLemmas.{reply_unbroken}
use Rattle.reply_laws.specs.Brought.{IsUnbrokenProcap, IsUnbrokenWord, IsUnbrokenCommand, IsUnbrokenLine, BringsUnbroken}
use Rattle.reply_laws.proofs.AnswerLemmas.{answer_unbroken}
use Rattle.reply_laws.proofs.LineLemmas.{line_unbroken}
use Rattle.pcfs_store.specs.Entries.{Root, StoreEntry, events_among, state_of_entries}
use Rattle.session_history.specs.declared.request.TurnRequest.{TurnRequest}
use Rattle.session_history.specs.declared.request.TurnRequest.TheVariants as requests
use Rattle.session_history.specs.declared.reply.TurnReply.{TurnReply}
use Rattle.session_history.specs.declared.reply.TurnReply.TheVariants as turn_replies
use Rattle.session_history.specs.declared.task.LineTask.{LineTask}
use Rattle.session_history.specs.declared.task.LineTask.TheVariants as tasks
use Rattle.session_history.specs.Output.{session_output}
use Rattle.session_history.specs.Placed.{IsReplyOf, LinePlaced, at_once, in_a_turn, proves_none, issues, LinesPlaced, no_line, one_more}
use Rattle.session_history.specs.Placed as places
use Rattle.session_history.specs.SessionState.{SessionState, mode_of}
use Rattle.session_history.specs.Tasks.{IsUserTask, IsCommandTask, IsReadTask, IsTaskOf, faulty, read}
use Rattle.session_history.specs.Turn.{StorePass, authority_of_root, AnswersTurn, steps, makes, cites, cites_none, logs_in, rejects, Turn, TurnPlaced, was_stopped, answered, full, kept, failed}
use Rattle.session_history.specs.Turn as turns
use Rattle.session_replies.proofs.FrontLemmas.{world_before}

-- ---- tasks

-- what a turn asks brings no line end
abbrev IsUnbrokenTurn : TurnRequest → Type 0
IsUnbrokenTurn (requests.Step request) = BringsUnbroken request
IsUnbrokenTurn (requests.Cite numbers) = Unit {0}
IsUnbrokenTurn requests.Checkpoint = Unit {0}
IsUnbrokenTurn (requests.Login who nonce signature) = Unit {0}

abbrev IsUnbrokenTask : LineTask → Type 0
IsUnbrokenTask (tasks.Reply reply) = IsUnbrokenReply reply
IsUnbrokenTask (tasks.Turn request) = IsUnbrokenTurn request
IsUnbrokenTask (tasks.Proof goal numbers proof) = Unit {0}

held_unbroken : (procaps : List Sealed) → AllByRecursion IsUnbrokenWord (map words.Procap procaps) → AllByRecursion IsUnbrokenProcap procaps
held_unbroken [] h = tt
held_unbroken (p ∷ procaps) h = (h.0, held_unbroken procaps h.1)

user_unbroken : (who : List ℕ) (command : Command) (task : LineTask) → IsUnbrokenCommand command → IsUserTask who command task → IsUnbrokenTask task
user_unbroken who (At second) task h is = absurd is
user_unbroken who (As other) task h is = absurd is
user_unbroken who (Register None statement) task h is = absurd is
user_unbroken who (Register (Some signature) statement) task h is = subst IsUnbrokenTask (sym is) tt
user_unbroken who (Withdraw number None) task h is = absurd is
user_unbroken who (Withdraw number (Some signature)) task h is = subst IsUnbrokenTask (sym is) tt
user_unbroken who (Procap number) task h is = subst IsUnbrokenTask (sym is) tt
user_unbroken who Checkpoint task h is = subst IsUnbrokenTask (sym is.1) tt
user_unbroken who (Verify goal numbers proof) task h is = subst IsUnbrokenTask (sym is) tt
user_unbroken who (Check goal numbers proof) task h is = absurd is
user_unbroken who (Do op given) task h is = subst IsUnbrokenTask (sym is.2) (held_unbroken is.0 (subst (AllByRecursion IsUnbrokenWord) is.1 h))

command_unbroken : (caller : Option (List ℕ)) (command : Command) (task : LineTask) → IsUnbrokenCommand command → IsCommandTask caller command task → IsUnbrokenTask task
command_unbroken None command task h is = subst IsUnbrokenTask (sym is) tt
command_unbroken (Some who) command task h is = user_unbroken who command task h is

read_unbroken : (s : SessionState) (said : Line) (task : LineTask) → IsUnbrokenLine said → IsReadTask s said task → IsUnbrokenTask task
read_unbroken s (lines.Command command) task h is = command_unbroken s.caller command task h is
read_unbroken s (lines.Login who signature) task h is = subst IsUnbrokenTask (sym is) tt
read_unbroken s (lines.Statement statement) task h is = absurd is
read_unbroken s (lines.Goal goal proof) task h is = absurd is

task_unbroken : (s : SessionState) (line : List ℕ) (task : LineTask) → IsTaskOf s line task → IsUnbrokenTask task
task_unbroken s line _ (faulty fault bad) = tt
task_unbroken s line _ (read said task is_line is_read) = read_unbroken s said task (line_unbroken (mode_of s) line said is_line) is_read

-- ---- turns

abbrev IsUnbrokenTurnReply : TurnReply → Type 0
IsUnbrokenTurnReply (turn_replies.Step reply) = IsUnbrokenStep reply
IsUnbrokenTurnReply (turn_replies.Cited cited) = Unit {0}
IsUnbrokenTurnReply turn_replies.LoggedIn = Unit {0}
IsUnbrokenTurnReply turn_replies.Checkpointed = Unit {0}
IsUnbrokenTurnReply turn_replies.Full = Unit {0}
IsUnbrokenTurnReply turn_replies.Stopped = Unit {0}
IsUnbrokenTurnReply turn_replies.NoMemory = Unit {0}

turn_answer : (root : Root) (state : BaseView) (pass : ℕ) (clock : ℤ) (request : TurnRequest) (reply : TurnReply) (entry : Option StoreEntry) → IsWorld state.world → IsUnbrokenTurn request → AnswersTurn root state pass clock request reply entry → IsUnbrokenTurnReply reply
turn_answer root state pass clock _ _ _ world h (steps request reply event answers) = answer_unbroken (authority_of_root root) state pass clock request reply event world h answers
turn_answer root state pass clock _ _ _ world h makes = tt
turn_answer root state pass clock _ _ _ world h (cites numbers cited found) = tt
turn_answer root state pass clock _ _ _ world h (cites_none numbers number absent) = tt
turn_answer root state pass clock _ _ _ world h (logs_in who nonce signature is) = tt
turn_answer root state pass clock _ _ _ world h (rejects who nonce signature is) = tt

turn_unbroken : (gives : List StoreEntry → ℤ → Type 0) (p : StorePass) (before : List StoreEntry) (request : TurnRequest) (reply : TurnReply) (given : List StoreEntry) → IsWorld (state_of_entries p.root before).world → IsUnbrokenTurn request →
    Turn gives p before request reply given → IsUnbrokenTurnReply reply
turn_unbroken gives p before request _ _ world h (was_stopped is) = tt
turn_unbroken gives p before request _ _ world h (answered clock reply running shown answers) = turn_answer p.root (state_of_entries p.root before) p.number clock request reply None world h answers
turn_unbroken gives p before request _ _ world h (full clock reply entry running shown answers is_full) = tt
turn_unbroken gives p before request _ _ world h (kept clock reply entry running shown answers room) = turn_answer p.root (state_of_entries p.root before) p.number clock request reply (Some entry) world h answers
turn_unbroken gives p before request _ _ world h (failed clock reply entry running shown answers room) = tt
turn_unbroken gives p before request _ _ world h turns.without_memory = tt

reply_told : (found : TurnReply) (reply : LineReply) → IsUnbrokenTurnReply found → IsReplyOf found reply → IsUnbrokenReply reply
reply_told (turn_replies.Step step) reply h is = subst IsUnbrokenReply (sym is) h
reply_told (turn_replies.Cited cited) reply h is = absurd is
reply_told turn_replies.LoggedIn reply h is = subst IsUnbrokenReply (sym is) tt
reply_told turn_replies.Checkpointed reply h is = subst IsUnbrokenReply (sym is) tt
reply_told turn_replies.Full reply h is = subst IsUnbrokenReply (sym is) tt
reply_told turn_replies.Stopped reply h is = subst IsUnbrokenReply (sym is) tt
reply_told turn_replies.NoMemory reply h is = subst IsUnbrokenReply (sym is) tt

-- ---- lines

module _ (gives : List StoreEntry → ℤ → Type 0) (p : StorePass) (history : List StoreEntry) (lawful : IsLawful (authority_of_root p.root) p.root.base (events_among history)) where
  -- the reply of a turn that has its place in the history
  placed_unbroken : (from : ℕ) (request : TurnRequest) (found : TurnReply) (to : ℕ) (given : List StoreEntry) → IsUnbrokenTurn request → TurnPlaced gives p history from request found to given → IsUnbrokenTurnReply found
  placed_unbroken from request found to given h turn =
      turn_unbroken gives p turn.before request found given (world_before p.root history turn.before (given ++ turn.after) turn.parts lawful) h turn.turn

  reply_placed : (from : ℕ) (task : LineTask) (reply : LineReply) (to : ℕ) (given : List StoreEntry) → IsUnbrokenTask task → LinePlaced gives p history from task reply to given → IsUnbrokenReply reply
  reply_placed from _ _ _ _ h (at_once reply) = h
  reply_placed from _ _ _ _ h (in_a_turn request found reply to given turn is) = reply_told found reply (placed_unbroken from request found to given h turn) is
  reply_placed from _ _ _ _ h (places.cites_none goal numbers proof found reply to given turn is) = reply_told found reply (placed_unbroken from (requests.Cite numbers) found to given tt turn) is
  reply_placed from _ _ _ _ h (proves_none goal numbers proof cited fault to turn verdict_is) = tt
  reply_placed from _ _ _ _ h (issues goal numbers proof cited g at found reply to given turn verdict_is second is) = reply_told found reply (placed_unbroken at (requests.Step (Issue (checked_view cited goal proof g))) found to given tt second) is
  reply_placed from _ _ _ _ h (places.without_memory task) = tt

  session_placed : (start : SessionState) (from : ℕ) (said : List (List ℕ)) (answers : List LineReply) (end : SessionState) (to : ℕ) (given : List StoreEntry) →
      LinesPlaced gives p history start from said answers end to given → AllByRecursion IsUnbrokenReply answers
  session_placed start from _ _ _ _ _ no_line = tt
  session_placed start from _ _ _ _ _ (one_more said answers s at given line task reply to others placed asks_for here) =
      AllByRecursion-push IsUnbrokenReply answers reply (session_placed start from said answers s at given placed) (reply_placed at task reply to others (task_unbroken s line task asks_for) here)

pub session_unbroken : (gives : List StoreEntry → ℤ → Type 0) (p : StorePass) (history : List StoreEntry) (start : SessionState) (from : ℕ) (said : List (List ℕ)) (answers : List LineReply) (end : SessionState) (to : ℕ) (given : List StoreEntry) →
    IsLawful (authority_of_root p.root) p.root.base (events_among history) → LinesPlaced gives p history start from said answers end to given → AllByRecursion IsUnbrokenReply answers
session_unbroken gives p history start from said answers end to given lawful placed = session_placed gives p history lawful start from said answers end to given placed

-- ---- what is written

-- bytes in hexadecimal stand on one line, as those do that a file is read as
greeting_unbroken : (nonce : List ℕ) → IsUnbroken (greeting_text nonce)
greeting_unbroken nonce = reply_unbroken (replies.Step (Operation (Tree (trees.Bytes nonce)))) tt

pub session_written : (gives : List StoreEntry → ℤ → Type 0) (p : StorePass) (history : List StoreEntry) (start : SessionState) (from : ℕ) (said : List (List ℕ)) (answers : List LineReply) (end : SessionState) (to : ℕ) (given : List StoreEntry) (nonce : List ℕ) →
    IsLawful (authority_of_root p.root) p.root.base (events_among history) → LinesPlaced gives p history start from said answers end to given → lines_of (session_output nonce answers) ≡ greeting_text nonce ∷ map reply_text answers
session_written gives p history start from said answers end to given nonce lawful placed =
    ap lines_of (append_assoc (greeting_text nonce) (10 ∷ []) (output_of answers)) ∙ one_line (greeting_text nonce) (output_of answers) (greeting_unbroken nonce)
    ∙ ap (λ (others : List (List ℕ)). greeting_text nonce ∷ others) (lines_of_output answers (session_unbroken gives p history start from said answers end to given lawful placed))
