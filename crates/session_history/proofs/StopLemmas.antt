-- A turn or a line is told that the store is stopped only where a mark is among the entries up to its place.
use Rattle.std.proofs.Common.{◌≡◌, ◌∙◌, ◌+◌, ◌⊎◌, inl, inr, ℕ, List, [], ◌∷◌, ◌++◌, true, false, Option, Some, None, length, take, refl, sym, ap, append_assoc, length-append}
use Rattle.std.specs.Prelude.{ℤ}
use Rattle.std.specs.Option.{option_map}
use Rattle.std.proofs.lemmas.Bool.{false≢true}
use Rattle.std.proofs.Math.Seq.{take-append_seam}
use Rattle.journal_records.specs.declared.event.Event.{Event}
use Rattle.access_history.specs.Base.{BaseView}
use Rattle.line_forms.specs.declared.asked.Line.{Line}
use Rattle.line_forms.specs.declared.asked.Line.TheVariants as lines
use Rattle.line_forms.specs.declared.command.Command.{Command}
use Rattle.line_forms.specs.declared.command.Command.TheVariants.{At, As, Register, Withdraw, Procap, Checkpoint, Verify, Check, Do}
use Rattle.access_history.specs.declared.request.StepRequest.TheVariants as requests
use Rattle.line_forms.specs.declared.fault.LineFault.{LineFault}
use Rattle.line_wire.specs.declared.reply.LineReply.{LineReply}
use Rattle.line_wire.specs.declared.reply.LineReply.TheVariants as replies
use Rattle.pcfs_store.specs.Entries.{Root, StoreEntry, happened, checkpointed, stopped, events_among, checkpoints_among, state_of_entries}
use Rattle.session_history.specs.declared.request.TurnRequest.{TurnRequest}
use Rattle.session_history.specs.declared.request.TurnRequest.TheVariants.{Step, Login}
use Rattle.session_history.specs.declared.request.TurnRequest.TheVariants as turn_requests
use Rattle.session_history.specs.declared.reply.TurnReply.{TurnReply}
use Rattle.session_history.specs.declared.reply.TurnReply.TheVariants as turn_replies
use Rattle.session_history.specs.Passes.{has_stop}
use Rattle.session_history.specs.Turn.{StorePass, event_of, AnswersTurn, steps, makes, cites, cites_none, logs_in, rejects, Turn, was_stopped, answered, full, kept, failed, TurnPlaced}
use Rattle.session_history.specs.Turn as turns
use Rattle.session_history.specs.SessionState.{SessionState}
use Rattle.session_history.specs.declared.task.LineTask.{LineTask}
use Rattle.session_history.specs.declared.task.LineTask.TheVariants as tasks
use Rattle.session_history.specs.Tasks.{IsUserTask, IsCommandTask, IsReadTask, IsTaskOf, faulty, read}
use Rattle.session_history.specs.Placed.{IsReplyOf, LinePlaced, at_once, in_a_turn, proves_none, issues}
use Rattle.session_history.specs.Placed as places

-- ---- entries with a mark

stop_before : (xs ys : List StoreEntry) → has_stop xs ≡ true → has_stop (xs ++ ys) ≡ true
stop_before [] ys is = absurd cc
stop_before (happened event ∷ xs) ys is = stop_before xs ys is
stop_before (checkpointed pass ∷ xs) ys is = stop_before xs ys is
stop_before (stopped pass met ∷ xs) ys is = refl

stop_within : (xs ys : List StoreEntry) (pass : ℕ) (met : Option Event) → has_stop (xs ++ stopped pass met ∷ ys) ≡ true
stop_within [] ys pass met = refl
stop_within (happened event ∷ xs) ys pass met = stop_within xs ys pass met
stop_within (checkpointed other ∷ xs) ys pass met = stop_within xs ys pass met
stop_within (stopped other found ∷ xs) ys pass met = refl

-- ---- turns

-- the entry that an answer adds, if there is one
abbrev pub those_of : Option StoreEntry → List StoreEntry
those_of None = []
those_of (Some entry) = entry ∷ []

-- no answer is that the store is stopped
answer_goes : (root : Root) (state : BaseView) (pass : ℕ) (clock : ℤ) (request : TurnRequest) (reply : TurnReply) (entry : Option StoreEntry) → AnswersTurn root state pass clock request reply entry → reply ≡ turn_replies.Stopped → ⊥
answer_goes root state pass clock _ _ _ (steps request reply event answers) is = cc
answer_goes root state pass clock _ _ _ makes is = cc
answer_goes root state pass clock _ _ _ (cites numbers cited found) is = cc
answer_goes root state pass clock _ _ _ (cites_none numbers number absent) is = cc
answer_goes root state pass clock _ _ _ (logs_in who nonce signature accepted) is = cc
answer_goes root state pass clock _ _ _ (rejects who nonce signature refused) is = cc

pub stop_there : (gives : List StoreEntry → ℤ → Type 0) (p : StorePass) (before : List StoreEntry) (request : TurnRequest) (reply : TurnReply) (given : List StoreEntry) → Turn gives p before request reply given → reply ≡ turn_replies.Stopped → has_stop (before ++ given) ≡ true
stop_there gives p before request _ _ (was_stopped stop) is = stop_before before [] stop
stop_there gives p before request _ _ (answered clock reply running shown answers) is = absurd (answer_goes p.root (state_of_entries p.root before) p.number clock request reply None answers is)
stop_there gives p before request _ _ (full clock reply entry running shown answers is_full) is = absurd cc
stop_there gives p before request _ _ (kept clock reply entry running shown answers room) is = absurd (answer_goes p.root (state_of_entries p.root before) p.number clock request reply (Some entry) answers is)
stop_there gives p before request _ _ (failed clock reply entry running shown answers room) is = stop_within before [] p.number (event_of entry)
stop_there gives p before request _ _ turns.without_memory is = absurd cc

-- it keeps no event then
none_kept : (gives : List StoreEntry → ℤ → Type 0) (p : StorePass) (before : List StoreEntry) (request : TurnRequest) (reply : TurnReply) (given : List StoreEntry) → Turn gives p before request reply given → reply ≡ turn_replies.Stopped → events_among given ≡ []
none_kept gives p before request _ _ (was_stopped stop) is = refl
none_kept gives p before request _ _ (answered clock reply running shown answers) is = refl
none_kept gives p before request _ _ (full clock reply entry running shown answers is_full) is = refl
none_kept gives p before request _ _ (kept clock reply entry running shown answers room) is = absurd (answer_goes p.root (state_of_entries p.root before) p.number clock request reply (Some entry) answers is)
none_kept gives p before request _ _ (failed clock reply entry running shown answers room) is = refl
none_kept gives p before request _ _ turns.without_memory is = refl

-- and makes no checkpoint
none_made : (gives : List StoreEntry → ℤ → Type 0) (p : StorePass) (before : List StoreEntry) (request : TurnRequest) (reply : TurnReply) (given : List StoreEntry) → Turn gives p before request reply given → reply ≡ turn_replies.Stopped → checkpoints_among given ≡ 0
none_made gives p before request _ _ (was_stopped stop) is = refl
none_made gives p before request _ _ (answered clock reply running shown answers) is = refl
none_made gives p before request _ _ (full clock reply entry running shown answers is_full) is = refl
none_made gives p before request _ _ (kept clock reply entry running shown answers room) is = absurd (answer_goes p.root (state_of_entries p.root before) p.number clock request reply (Some entry) answers is)
none_made gives p before request _ _ (failed clock reply entry running shown answers room) is = refl
none_made gives p before request _ _ turns.without_memory is = refl

-- no answer adds a mark
event_no_mark : (event : Option Event) → has_stop (those_of (option_map happened event)) ≡ false
event_no_mark None = refl
event_no_mark (Some event) = refl

no_mark : (root : Root) (state : BaseView) (pass : ℕ) (clock : ℤ) (request : TurnRequest) (reply : TurnReply) (entry : Option StoreEntry) → AnswersTurn root state pass clock request reply entry → has_stop (those_of entry) ≡ false
no_mark root state pass clock _ _ _ (steps request reply event answers) = event_no_mark event
no_mark root state pass clock _ _ _ makes = refl
no_mark root state pass clock _ _ _ (cites numbers cited found) = refl
no_mark root state pass clock _ _ _ (cites_none numbers number absent) = refl
no_mark root state pass clock _ _ _ (logs_in who nonce signature accepted) = refl
no_mark root state pass clock _ _ _ (rejects who nonce signature refused) = refl

-- and a turn that adds a mark is told so
mark_told : (gives : List StoreEntry → ℤ → Type 0) (p : StorePass) (before : List StoreEntry) (request : TurnRequest) (reply : TurnReply) (given : List StoreEntry) → Turn gives p before request reply given → has_stop given ≡ true → reply ≡ turn_replies.Stopped
mark_told gives p before request _ _ (was_stopped stop) mark = refl
mark_told gives p before request _ _ (answered clock reply running shown answers) mark = absurd (false≢true mark)
mark_told gives p before request _ _ (full clock reply entry running shown answers is_full) mark = absurd (false≢true mark)
mark_told gives p before request _ _ (kept clock reply entry running shown answers room) mark = absurd (false≢true (sym (no_mark p.root (state_of_entries p.root before) p.number clock request reply (Some entry) answers) ∙ mark))
mark_told gives p before request _ _ (failed clock reply entry running shown answers room) mark = refl
mark_told gives p before request _ _ turns.without_memory mark = absurd (false≢true mark)

pub stops_told : (gives : List StoreEntry → ℤ → Type 0) (p : StorePass) (before : List StoreEntry) (request : TurnRequest) (reply : TurnReply) (given : List StoreEntry) → Turn gives p before request reply given →
    (reply ≡ turn_replies.Stopped → (has_stop (before ++ given) ≡ true) × (events_among given ≡ []) × (checkpoints_among given ≡ 0)) × (has_stop given ≡ true → reply ≡ turn_replies.Stopped)
stops_told gives p before request reply given turn =
    (λ is. (stop_there gives p before request reply given turn is, none_kept gives p before request reply given turn is, none_made gives p before request reply given turn is), λ mark. mark_told gives p before request reply given turn mark)

-- the entries up to where a turn came
front_of : (history before given after : List StoreEntry) (to : ℕ) → history ≡ before ++ (given ++ after) → to ≡ length before + length given → take to history ≡ before ++ given
front_of history before given after to parts place =
    ap (take to) (parts ∙ sym (append_assoc before given after)) ∙ ap (λ (n : ℕ). take n ((before ++ given) ++ after)) (place ∙ sym (length-append before given)) ∙ take-append_seam (before ++ given) after

turn_stopped : (gives : List StoreEntry → ℤ → Type 0) (p : StorePass) (history : List StoreEntry) (from : ℕ) (request : TurnRequest) (reply : TurnReply) (to : ℕ) (given : List StoreEntry) →
    TurnPlaced gives p history from request reply to given → reply ≡ turn_replies.Stopped → has_stop (take to history) ≡ true
turn_stopped gives p history from request reply to given t is = ap has_stop (front_of history t.before given t.after to t.parts t.place) ∙ stop_there gives p t.before request reply given t.turn is

-- ---- lines

pub stopped_turn : (found : TurnReply) (reply : LineReply) → IsReplyOf found reply → reply ≡ replies.Stopped → found ≡ turn_replies.Stopped
stopped_turn (turn_replies.Step answer) reply is same = let both : replies.Step answer ≡ replies.Stopped = sym is ∙ same in absurd cc
stopped_turn (turn_replies.Cited cited) reply is same = absurd is
stopped_turn turn_replies.LoggedIn reply is same = let both : replies.Done ≡ replies.Stopped = sym is ∙ same in absurd cc
stopped_turn turn_replies.Checkpointed reply is same = let both : replies.Checkpointed ≡ replies.Stopped = sym is ∙ same in absurd cc
stopped_turn turn_replies.Full reply is same = let both : replies.Full ≡ replies.Stopped = sym is ∙ same in absurd cc
stopped_turn turn_replies.Stopped reply is same = refl
stopped_turn turn_replies.NoMemory reply is same = let both : replies.NoMemory ≡ replies.Stopped = sym is ∙ same in absurd cc

-- what is said at once: that nobody is logged in, or the line's fault
abbrev pub IsSaidAtOnce : LineReply → Type 0
IsSaidAtOnce reply = (reply ≡ replies.NotLoggedIn) ⊎ ((fault : LineFault) × (reply ≡ replies.Faulty fault))

user_said : (who : List ℕ) (command : Command) (task : LineTask) (reply : LineReply) → IsUserTask who command task → task ≡ tasks.Reply reply → IsSaidAtOnce reply
user_said who (At second) task reply is same = absurd is
user_said who (As other) task reply is same = absurd is
user_said who (Register None statement) task reply is same = absurd is
user_said who (Register (Some signature) statement) task reply is same = let both : tasks.Turn (Step (requests.Register statement signature)) ≡ tasks.Reply reply = sym is ∙ same in absurd cc
user_said who (Withdraw number None) task reply is same = absurd is
user_said who (Withdraw number (Some signature)) task reply is same = let both : tasks.Turn (Step (requests.Withdraw number signature)) ≡ tasks.Reply reply = sym is ∙ same in absurd cc
user_said who (Procap number) task reply is same = let both : tasks.Turn (Step (requests.ShowProcap number (Some who))) ≡ tasks.Reply reply = sym is ∙ same in absurd cc
user_said who Checkpoint task reply is same = let both : tasks.Turn turn_requests.Checkpoint ≡ tasks.Reply reply = sym is.1 ∙ same in absurd cc
user_said who (Verify goal numbers proof) task reply is same = let both : tasks.Proof goal numbers proof ≡ tasks.Reply reply = sym is ∙ same in absurd cc
user_said who (Check goal numbers proof) task reply is same = absurd is
user_said who (Do op words) task reply is same = let both : tasks.Turn (Step (requests.Act who op is.0)) ≡ tasks.Reply reply = sym is.2 ∙ same in absurd cc

command_said : (caller : Option (List ℕ)) (command : Command) (task : LineTask) (reply : LineReply) → IsCommandTask caller command task → task ≡ tasks.Reply reply → IsSaidAtOnce reply
command_said None command task reply is same = let both : tasks.Reply replies.NotLoggedIn ≡ tasks.Reply reply = sym is ∙ same in let it : replies.NotLoggedIn ≡ reply = cc in inl (sym it)
command_said (Some who) command task reply is same = user_said who command task reply is same

read_said : (s : SessionState) (said : Line) (task : LineTask) (reply : LineReply) → IsReadTask s said task → task ≡ tasks.Reply reply → IsSaidAtOnce reply
read_said s (lines.Command command) task reply is same = command_said s.caller command task reply is same
read_said s (lines.Login who signature) task reply is same = let both : tasks.Turn (Login who s.nonce signature) ≡ tasks.Reply reply = sym is ∙ same in absurd cc
read_said s (lines.Statement statement) task reply is same = absurd is
read_said s (lines.Goal goal proof) task reply is same = absurd is

pub said_at_once : (s : SessionState) (line : List ℕ) (task : LineTask) (reply : LineReply) → IsTaskOf s line task → task ≡ tasks.Reply reply → IsSaidAtOnce reply
said_at_once s line _ reply (faulty fault bad) same = let it : replies.Faulty fault ≡ reply = cc in inr (fault, sym it)
said_at_once s line _ reply (read said task is reads) same = read_said s said task reply reads same

-- that is neither that the store is stopped nor that memory ran out
pub not_stopped_at_once : (reply : LineReply) → IsSaidAtOnce reply → reply ≡ replies.Stopped → ⊥
not_stopped_at_once reply (inl is) same = let both : replies.NotLoggedIn ≡ replies.Stopped = sym is ∙ same in cc
not_stopped_at_once reply (inr bad) same = let both : replies.Faulty bad.0 ≡ replies.Stopped = sym bad.1 ∙ same in cc

pub had_memory_at_once : (reply : LineReply) → IsSaidAtOnce reply → reply ≡ replies.NoMemory → ⊥
had_memory_at_once reply (inl is) same = let both : replies.NotLoggedIn ≡ replies.NoMemory = sym is ∙ same in cc
had_memory_at_once reply (inr bad) same = let both : replies.Faulty bad.0 ≡ replies.NoMemory = sym bad.1 ∙ same in cc

by_place : (gives : List StoreEntry → ℤ → Type 0) (p : StorePass) (history : List StoreEntry) (s : SessionState) (from : ℕ) (line : List ℕ) (task : LineTask) (reply : LineReply) (to : ℕ) (given : List StoreEntry) →
    IsTaskOf s line task → LinePlaced gives p history from task reply to given → reply ≡ replies.Stopped → has_stop (take to history) ≡ true
by_place gives p history s from line _ _ _ _ asks_for (at_once reply) same = absurd (not_stopped_at_once reply (said_at_once s line (tasks.Reply reply) reply asks_for refl) same)
by_place gives p history s from line _ _ _ _ asks_for (in_a_turn request found reply to given turn is) same = turn_stopped gives p history from request found to given turn (stopped_turn found reply is same)
by_place gives p history s from line _ _ _ _ asks_for (places.cites_none goal numbers proof found reply to given turn is) same = turn_stopped gives p history from _ found to given turn (stopped_turn found reply is same)
by_place gives p history s from line _ _ _ _ asks_for (proves_none goal numbers proof cited fault to turn verdict_is) same = absurd cc
by_place gives p history s from line _ _ _ _ asks_for (issues goal numbers proof cited g at found reply to given turn verdict_is second is) same = turn_stopped gives p history at _ found to given second (stopped_turn found reply is same)
by_place gives p history s from line _ _ _ _ asks_for (places.without_memory task) same = absurd cc

pub line_stopped : (gives : List StoreEntry → ℤ → Type 0) (p : StorePass) (history : List StoreEntry) (s : SessionState) (from : ℕ) (line : List ℕ) (task : LineTask) (to : ℕ) (given : List StoreEntry) →
    IsTaskOf s line task → LinePlaced gives p history from task replies.Stopped to given → has_stop (take to history) ≡ true
line_stopped gives p history s from line task to given asks_for placed = by_place gives p history s from line task replies.Stopped to given asks_for placed refl
