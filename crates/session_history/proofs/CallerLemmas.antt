-- In a session that is given entries somebody logged in over its nonce by one of its lines, each operation among them is by who did, and each checkpoint by `admin`.
use Rattle.std.proofs.Common.{◌≡◌, ◌∙◌, ℕ, List, [], ◌∷◌, ◌++◌, Bool, true, false, Option, Some, None, codes, refl, sym, ap, subst, append_assoc}
use Rattle.std.specs.Prelude.{ℤ}
use Rattle.std.specs.List.{AllByRecursion}
use Rattle.std.specs.Option.{option_map}
use Rattle.std.proofs.lemmas.Slice.Eq.{bytes_eq-Decides}
use Rattle.policy_statement.specs.Messages.{login_message}
use Rattle.policy_statement.specs.Ring.{KeyView, is_accepted}
use Rattle.proof_verifier.specs.CheckedView.{checked_view}
use Rattle.journal_records.specs.declared.event.Event.{Event}
use Rattle.journal_records.specs.declared.event.Event.TheVariants.{Registered, Issued, Withdrawn, Acted}
use Rattle.access_history.specs.declared.request.StepRequest.{StepRequest}
use Rattle.access_history.specs.declared.request.StepRequest.TheVariants as steps
use Rattle.access_history.specs.declared.reply.StepReply.{StepReply}
use Rattle.access_history.specs.Authority.{Authority}
use Rattle.access_history.specs.Base.{BaseView}
use Rattle.access_history.specs.Answer.{Answers, registered, withdrawn, issued, acted}
use Rattle.line_forms.specs.declared.asked.Line.{Line}
use Rattle.line_forms.specs.declared.asked.Line.TheVariants as lines
use Rattle.line_forms.specs.declared.command.Command.{Command}
use Rattle.line_forms.specs.declared.command.Command.TheVariants.{At, As, Register, Withdraw, Procap, Checkpoint, Verify, Check, Do}
use Rattle.line_wire.specs.declared.reply.LineReply.{LineReply}
use Rattle.pcfs_store.specs.Entries.{Root, StoreEntry, happened, checkpointed, stopped, state_of_entries}
use Rattle.session_history.specs.declared.request.TurnRequest.{TurnRequest}
use Rattle.session_history.specs.declared.request.TurnRequest.TheVariants.{Step, Cite, Login}
use Rattle.session_history.specs.declared.request.TurnRequest.TheVariants as turn_requests
use Rattle.session_history.specs.declared.reply.TurnReply.{TurnReply}
use Rattle.session_history.specs.declared.reply.TurnReply.TheVariants as turn_replies
use Rattle.session_history.specs.declared.task.LineTask.{LineTask}
use Rattle.session_history.specs.declared.task.LineTask.TheVariants as tasks
use Rattle.session_history.specs.SessionState.{SessionState, guest_with}
use Rattle.session_history.specs.Turn.{StorePass, authority_of_root, event_of, AnswersTurn, Turn}
use Rattle.session_history.specs.Turn as turns
use Rattle.session_history.specs.Tasks.{IsUserTask, IsCommandTask, IsReadTask, IsTaskOf, faulty, read}
use Rattle.session_history.specs.Placed.{IsReplyOf, LinePlaced, at_once, in_a_turn, proves_none, issues, is_done, state_after, LinesPlaced, no_line, one_more}
use Rattle.session_history.specs.Placed as places
use Rattle.session_history.specs.Laws.{HasSigned, IsMetByAccepted, IsByAccepted}

-- so of who is logged in
abbrev IsCallerAccepted : List KeyView → List ℕ → List (List ℕ) → Option (List ℕ) → Type 0
IsCallerAccepted ring nonce heard None = Unit {0}
IsCallerAccepted ring nonce heard (Some who) = HasSigned ring nonce heard who

-- who acts by a task that takes one turn; somebody does who registers, withdraws or issues
abbrev ActsAs : (List ℕ → Type 0) → TurnRequest → Type 0
ActsAs P (Step (steps.Register statement signature)) = (who : List ℕ) × P who
ActsAs P (Step (steps.Withdraw number signature)) = (who : List ℕ) × P who
ActsAs P (Step (steps.Issue checked)) = (who : List ℕ) × P who
ActsAs P (Step (steps.Act who op procaps)) = P who
ActsAs P (Step (steps.ShowProcap number who)) = Unit {0}
ActsAs P (Cite numbers) = Unit {0}
ActsAs P turn_requests.Checkpoint = P (codes "admin")
ActsAs P (Login who nonce signature) = Unit {0}

abbrev IsActedAs : (List ℕ → Type 0) → LineTask → Type 0
IsActedAs P (tasks.Reply reply) = Unit {0}
IsActedAs P (tasks.Turn request) = ActsAs P request
IsActedAs P (tasks.Proof goal numbers proof) = (who : List ℕ) × P who

-- ---- what an answer keeps

event_by : (ring : List KeyView) (nonce : List ℕ) (heard : List (List ℕ)) (authority : Authority) (state : BaseView) (pass : ℕ) (clock : ℤ) (request : StepRequest) (reply : StepReply) (event : Event) → ActsAs (HasSigned ring nonce heard) (Step request) →
    Answers authority state pass clock request reply (Some event) → IsByAccepted ring nonce heard (happened event)
event_by ring nonce heard authority state pass clock request reply event acts (registered statement signature may) = acts
event_by ring nonce heard authority state pass clock request reply event acts (withdrawn number signature may) = acts
event_by ring nonce heard authority state pass clock request reply event acts (issued checked rising granted stand) = acts
event_by ring nonce heard authority state pass clock request reply event acts (acted caller op procaps admitted free) = acts

abbrev IsEntryBy : List KeyView → List ℕ → List (List ℕ) → Option StoreEntry → Type 0
IsEntryBy ring nonce heard None = Unit {0}
IsEntryBy ring nonce heard (Some entry) = IsByAccepted ring nonce heard entry

of_answer : (ring : List KeyView) (nonce : List ℕ) (heard : List (List ℕ)) (authority : Authority) (state : BaseView) (pass : ℕ) (clock : ℤ) (request : StepRequest) (reply : StepReply) (event : Option Event) → ActsAs (HasSigned ring nonce heard) (Step request) →
    Answers authority state pass clock request reply event → IsEntryBy ring nonce heard (option_map happened event)
of_answer ring nonce heard authority state pass clock request reply None acts answers = tt
of_answer ring nonce heard authority state pass clock request reply (Some event) acts answers = event_by ring nonce heard authority state pass clock request reply event acts answers

of_turn_answer : (ring : List KeyView) (nonce : List ℕ) (heard : List (List ℕ)) (root : Root) (state : BaseView) (pass : ℕ) (clock : ℤ) (request : TurnRequest) (answer : TurnReply) (entry : Option StoreEntry) → ActsAs (HasSigned ring nonce heard) request →
    AnswersTurn root state pass clock request answer entry → IsEntryBy ring nonce heard entry
of_turn_answer ring nonce heard root state pass clock _ _ _ acts (turns.steps request reply event answers) = of_answer ring nonce heard (authority_of_root root) state pass clock request reply event acts answers
of_turn_answer ring nonce heard root state pass clock _ _ _ acts turns.makes = acts
of_turn_answer ring nonce heard root state pass clock _ _ _ acts (turns.cites numbers cited found) = tt
of_turn_answer ring nonce heard root state pass clock _ _ _ acts (turns.cites_none numbers number absent) = tt
of_turn_answer ring nonce heard root state pass clock _ _ _ acts (turns.logs_in who nonce' signature is) = tt
of_turn_answer ring nonce heard root state pass clock _ _ _ acts (turns.rejects who nonce' signature is) = tt

-- what was being added when a disk failed is by whom it would have been
met_by : (ring : List KeyView) (nonce : List ℕ) (heard : List (List ℕ)) (entry : StoreEntry) → IsByAccepted ring nonce heard entry → IsMetByAccepted ring nonce heard (event_of entry)
met_by ring nonce heard (happened event) by_some = by_some
met_by ring nonce heard (checkpointed pass) by_some = by_some
met_by ring nonce heard (stopped pass met) by_some = by_some

turn_by : (ring : List KeyView) (nonce : List ℕ) (heard : List (List ℕ)) (gives : List StoreEntry → ℤ → Type 0) (p : StorePass) (before : List StoreEntry) (request : TurnRequest) (reply : TurnReply) (given : List StoreEntry) → ActsAs (HasSigned ring nonce heard) request →
    Turn gives p before request reply given → AllByRecursion (IsByAccepted ring nonce heard) given
turn_by ring nonce heard gives p before request _ _ acts (turns.was_stopped is) = tt
turn_by ring nonce heard gives p before request _ _ acts (turns.answered clock answer running shown answers) = tt
turn_by ring nonce heard gives p before request _ _ acts (turns.full clock answer entry running shown answers is_full) = tt
turn_by ring nonce heard gives p before request _ _ acts (turns.kept clock answer entry running shown answers room) = (of_turn_answer ring nonce heard p.root (state_of_entries p.root before) p.number clock request answer (Some entry) acts answers, tt)
turn_by ring nonce heard gives p before request _ _ acts (turns.failed clock answer entry running shown answers room) = (met_by ring nonce heard entry (of_turn_answer ring nonce heard p.root (state_of_entries p.root before) p.number clock request answer (Some entry) acts answers), tt)
turn_by ring nonce heard gives p before request _ _ acts turns.without_memory = tt

line_by : (ring : List KeyView) (nonce : List ℕ) (heard : List (List ℕ)) (gives : List StoreEntry → ℤ → Type 0) (p : StorePass) (history : List StoreEntry) (from : ℕ) (task : LineTask) (reply : LineReply) (to : ℕ) (given : List StoreEntry) → IsActedAs (HasSigned ring nonce heard) task →
    LinePlaced gives p history from task reply to given → AllByRecursion (IsByAccepted ring nonce heard) given
line_by ring nonce heard gives p history from _ _ _ _ acts (at_once reply) = tt
line_by ring nonce heard gives p history from _ _ _ _ acts (in_a_turn request replied reply to given turn is) = turn_by ring nonce heard gives p turn.before request replied given acts turn.turn
line_by ring nonce heard gives p history from _ _ _ _ acts (places.cites_none goal numbers proof replied reply to given turn is) = turn_by ring nonce heard gives p turn.before (Cite numbers) replied given tt turn.turn
line_by ring nonce heard gives p history from _ _ _ _ acts (proves_none goal numbers proof cites fault to turn verdict_is) = tt
line_by ring nonce heard gives p history from _ _ _ _ acts (issues goal numbers proof cites g at replied reply to given turn verdict_is second is) = turn_by ring nonce heard gives p second.before (Step (steps.Issue (checked_view cites goal proof g))) replied given acts second.turn
line_by ring nonce heard gives p history from _ _ _ _ acts (places.without_memory task) = tt

-- ---- who acts by a line

user_acts : (ring : List KeyView) (nonce : List ℕ) (heard : List (List ℕ)) (who : List ℕ) (command : Command) (task : LineTask) → HasSigned ring nonce heard who → IsUserTask who command task → IsActedAs (HasSigned ring nonce heard) task
user_acts ring nonce heard who (At second) task signed is = absurd is
user_acts ring nonce heard who (As other) task signed is = absurd is
user_acts ring nonce heard who (Register None statement) task signed is = absurd is
user_acts ring nonce heard who (Register (Some signature) statement) task signed is = subst (IsActedAs (HasSigned ring nonce heard)) (sym is) (who, signed)
user_acts ring nonce heard who (Withdraw number None) task signed is = absurd is
user_acts ring nonce heard who (Withdraw number (Some signature)) task signed is = subst (IsActedAs (HasSigned ring nonce heard)) (sym is) (who, signed)
user_acts ring nonce heard who (Procap number) task signed is = subst (IsActedAs (HasSigned ring nonce heard)) (sym is) tt
user_acts ring nonce heard who Checkpoint task signed is =
    subst (IsActedAs (HasSigned ring nonce heard)) (sym is.1) (subst (HasSigned ring nonce heard) ((bytes_eq-Decides who (codes "admin")).0 is.0) signed)
user_acts ring nonce heard who (Verify goal numbers proof) task signed is = subst (IsActedAs (HasSigned ring nonce heard)) (sym is) (who, signed)
user_acts ring nonce heard who (Check goal numbers proof) task signed is = absurd is
user_acts ring nonce heard who (Do op given) task signed is = subst (IsActedAs (HasSigned ring nonce heard)) (sym is.2) signed

command_acts : (ring : List KeyView) (nonce : List ℕ) (heard : List (List ℕ)) (caller : Option (List ℕ)) (command : Command) (task : LineTask) → IsCallerAccepted ring nonce heard caller → IsCommandTask caller command task → IsActedAs (HasSigned ring nonce heard) task
command_acts ring nonce heard None command task accepted is = subst (IsActedAs (HasSigned ring nonce heard)) (sym is) tt
command_acts ring nonce heard (Some who) command task accepted is = user_acts ring nonce heard who command task accepted is

read_acts : (ring : List KeyView) (nonce : List ℕ) (heard : List (List ℕ)) (s : SessionState) (said : Line) (task : LineTask) → IsCallerAccepted ring nonce heard s.caller → IsReadTask s said task → IsActedAs (HasSigned ring nonce heard) task
read_acts ring nonce heard s (lines.Command command) task accepted is = command_acts ring nonce heard s.caller command task accepted is
read_acts ring nonce heard s (lines.Login who signature) task accepted is = subst (IsActedAs (HasSigned ring nonce heard)) (sym is) tt
read_acts ring nonce heard s (lines.Statement statement) task accepted is = absurd is
read_acts ring nonce heard s (lines.Goal goal proof) task accepted is = absurd is

task_acts : (ring : List KeyView) (nonce : List ℕ) (heard : List (List ℕ)) (s : SessionState) (line : List ℕ) (task : LineTask) → IsCallerAccepted ring nonce heard s.caller → IsTaskOf s line task → IsActedAs (HasSigned ring nonce heard) task
task_acts ring nonce heard s line _ accepted (faulty fault bad) = tt
task_acts ring nonce heard s line _ accepted (read said task is reads) = read_acts ring nonce heard s said task accepted reads

-- ---- who is logged in after a line

-- the nonce that a task of a session logs in over is the session's
abbrev LogsInOver : List ℕ → LineTask → Type 0
LogsInOver nonce (tasks.Reply reply) = Unit {0}
LogsInOver nonce (tasks.Turn (Step request)) = Unit {0}
LogsInOver nonce (tasks.Turn (Cite numbers)) = Unit {0}
LogsInOver nonce (tasks.Turn turn_requests.Checkpoint) = Unit {0}
LogsInOver nonce (tasks.Turn (Login who over signature)) = over ≡ nonce
LogsInOver nonce (tasks.Proof goal numbers proof) = Unit {0}

user_over : (nonce who : List ℕ) (command : Command) (task : LineTask) → IsUserTask who command task → LogsInOver nonce task
user_over nonce who (At second) task is = absurd is
user_over nonce who (As other) task is = absurd is
user_over nonce who (Register None statement) task is = absurd is
user_over nonce who (Register (Some signature) statement) task is = subst (LogsInOver nonce) (sym is) tt
user_over nonce who (Withdraw number None) task is = absurd is
user_over nonce who (Withdraw number (Some signature)) task is = subst (LogsInOver nonce) (sym is) tt
user_over nonce who (Procap number) task is = subst (LogsInOver nonce) (sym is) tt
user_over nonce who Checkpoint task is = subst (LogsInOver nonce) (sym is.1) tt
user_over nonce who (Verify goal numbers proof) task is = subst (LogsInOver nonce) (sym is) tt
user_over nonce who (Check goal numbers proof) task is = absurd is
user_over nonce who (Do op given) task is = subst (LogsInOver nonce) (sym is.2) tt

command_over : (nonce : List ℕ) (caller : Option (List ℕ)) (command : Command) (task : LineTask) → IsCommandTask caller command task → LogsInOver nonce task
command_over nonce None command task is = subst (LogsInOver nonce) (sym is) tt
command_over nonce (Some who) command task is = user_over nonce who command task is

read_over : (s : SessionState) (said : Line) (task : LineTask) → IsReadTask s said task → LogsInOver s.nonce task
read_over s (lines.Command command) task is = command_over s.nonce s.caller command task is
read_over s (lines.Login who signature) task is = subst (LogsInOver s.nonce) (sym is) refl
read_over s (lines.Statement statement) task is = absurd is
read_over s (lines.Goal goal proof) task is = absurd is

task_over : (s : SessionState) (line : List ℕ) (task : LineTask) → IsTaskOf s line task → LogsInOver s.nonce task
task_over s line _ (faulty fault bad) = tt
task_over s line _ (read said task is reads) = read_over s said task reads

-- a turn that logs in is accepted
answer_signed : (root : Root) (state : BaseView) (pass : ℕ) (clock : ℤ) (who over signature : List ℕ) (answer : TurnReply) (entry : Option StoreEntry) → AnswersTurn root state pass clock (Login who over signature) answer entry → answer ≡ turn_replies.LoggedIn →
    is_accepted root.ring who (login_message who over) signature ≡ true
answer_signed root state pass clock _ _ _ _ _ (turns.logs_in who over signature is) same = is
answer_signed root state pass clock _ _ _ _ _ (turns.rejects who over signature is) same = absurd cc

turn_signed : (gives : List StoreEntry → ℤ → Type 0) (p : StorePass) (before : List StoreEntry) (who over signature : List ℕ) (reply : TurnReply) (given : List StoreEntry) → Turn gives p before (Login who over signature) reply given → reply ≡ turn_replies.LoggedIn →
    is_accepted p.root.ring who (login_message who over) signature ≡ true
turn_signed gives p before who over signature _ _ (turns.was_stopped is) same = absurd cc
turn_signed gives p before who over signature _ _ (turns.answered clock answer running shown answers) same = answer_signed p.root (state_of_entries p.root before) p.number clock who over signature answer None answers same
turn_signed gives p before who over signature _ _ (turns.full clock answer entry running shown answers is_full) same = absurd cc
turn_signed gives p before who over signature _ _ (turns.kept clock answer entry running shown answers room) same = answer_signed p.root (state_of_entries p.root before) p.number clock who over signature answer (Some entry) answers same
turn_signed gives p before who over signature _ _ (turns.failed clock answer entry running shown answers room) same = absurd cc
turn_signed gives p before who over signature _ _ turns.without_memory same = absurd cc

-- a line is done that logs in
done_turn : (replied : TurnReply) (reply : LineReply) → IsReplyOf replied reply → is_done reply ≡ true → replied ≡ turn_replies.LoggedIn
done_turn (turn_replies.Step answer) reply is done = let no : false ≡ true = sym (ap is_done is) ∙ done in absurd cc
done_turn (turn_replies.Cited cites) reply is done = absurd is
done_turn turn_replies.LoggedIn reply is done = refl
done_turn turn_replies.Checkpointed reply is done = let no : false ≡ true = sym (ap is_done is) ∙ done in absurd cc
done_turn turn_replies.Full reply is done = let no : false ≡ true = sym (ap is_done is) ∙ done in absurd cc
done_turn turn_replies.Stopped reply is done = let no : false ≡ true = sym (ap is_done is) ∙ done in absurd cc
done_turn turn_replies.NoMemory reply is done = let no : false ≡ true = sym (ap is_done is) ∙ done in absurd cc

-- ---- more lines

module _ (ring : List KeyView) (nonce : List ℕ) (heard more : List (List ℕ)) where
  signed_more : (who : List ℕ) → HasSigned ring nonce heard who → HasSigned ring nonce (heard ++ more) who
  signed_more who h = record {
    before = h.before;
    line = h.line;
    after = h.after ++ more;
    among = ap (λ (l : List (List ℕ)). l ++ more) h.among ∙ append_assoc h.before (h.line ∷ h.after) more;
    state = h.state;
    signature = h.signature;
    asks = h.asks;
    accepted = h.accepted;
  }

  caller_more : (caller : Option (List ℕ)) → IsCallerAccepted ring nonce heard caller → IsCallerAccepted ring nonce (heard ++ more) caller
  caller_more None accepted = tt
  caller_more (Some who) accepted = signed_more who accepted

  event_more : (event : Event) → IsByAccepted ring nonce heard (happened event) → IsByAccepted ring nonce (heard ++ more) (happened event)
  event_more (Registered pass statement signature) h = (h.0, signed_more h.0 h.1)
  event_more (Issued pass cited proof grant) h = (h.0, signed_more h.0 h.1)
  event_more (Withdrawn pass number signature) h = (h.0, signed_more h.0 h.1)
  event_more (Acted pass caller op procaps moment) h = signed_more caller h

  met_more : (met : Option Event) → IsMetByAccepted ring nonce heard met → IsMetByAccepted ring nonce (heard ++ more) met
  met_more None h = signed_more (codes "admin") h
  met_more (Some event) h = event_more event h

  all_more : (given : List StoreEntry) → AllByRecursion (IsByAccepted ring nonce heard) given → AllByRecursion (IsByAccepted ring nonce (heard ++ more)) given
  all_more [] all = tt
  all_more (happened event ∷ given) all = (event_more event all.0, all_more given all.1)
  all_more (checkpointed pass ∷ given) all = (signed_more (codes "admin") all.0, all_more given all.1)
  all_more (stopped pass met ∷ given) all = (met_more met all.0, all_more given all.1)

-- what is kept of who is logged in
record IsSignedState (ring : List KeyView) (nonce : List ℕ) (heard : List (List ℕ)) (s : SessionState) : Type 0 where
  nonce_is : s.nonce ≡ nonce
  accepted : IsCallerAccepted ring nonce heard s.caller

state_more : (ring : List KeyView) (nonce : List ℕ) (heard more : List (List ℕ)) (s : SessionState) → IsSignedState ring nonce heard s → IsSignedState ring nonce (heard ++ more) s
state_more ring nonce heard more s signed = record { nonce_is = signed.nonce_is; accepted = caller_more ring nonce heard more s.caller signed.accepted }

login_state : (ring : List KeyView) (nonce : List ℕ) (heard : List (List ℕ)) (line : List ℕ) (s : SessionState) (who over signature : List ℕ) (reply : LineReply) (done : Bool) → is_done reply ≡ done → over ≡ s.nonce → IsTaskOf s line (tasks.Turn (Login who over signature)) →
    IsSignedState ring nonce heard s → (is_done reply ≡ true → is_accepted ring who (login_message who over) signature ≡ true) → IsSignedState ring nonce (heard ++ line ∷ []) (state_after s (tasks.Turn (Login who over signature)) reply)
login_state ring nonce heard line s who over signature reply true is same asks signed accepted =
    subst (λ (d : Bool). IsSignedState ring nonce (heard ++ line ∷ []) (places.after_login s who d)) (sym is)
    (record {
      nonce_is = signed.nonce_is;
      accepted = record {
        before = heard;
        line = line;
        after = [];
        among = refl;
        state = s;
        signature = signature;
        asks = subst (λ (n : List ℕ). IsTaskOf s line (tasks.Turn (Login who n signature))) (same ∙ signed.nonce_is) asks;
        accepted = subst (λ (n : List ℕ). is_accepted ring who (login_message who n) signature ≡ true) (same ∙ signed.nonce_is) (accepted is);
      };
    })
login_state ring nonce heard line s who over signature reply false is same asks signed accepted =
    subst (λ (d : Bool). IsSignedState ring nonce (heard ++ line ∷ []) (places.after_login s who d)) (sym is) (state_more ring nonce heard (line ∷ []) s signed)

module _ (gives : List StoreEntry → ℤ → Type 0) (p : StorePass) (history : List StoreEntry) (nonce : List ℕ) (heard : List (List ℕ)) (line : List ℕ) (s : SessionState) (from : ℕ) (signed : IsSignedState p.root.ring nonce heard s) where
  same_state : IsSignedState p.root.ring nonce (heard ++ line ∷ []) s
  same_state = state_more p.root.ring nonce heard (line ∷ []) s signed

  after_line : (task : LineTask) (reply : LineReply) (to : ℕ) (given : List StoreEntry) → IsTaskOf s line task → LogsInOver s.nonce task → LinePlaced gives p history from task reply to given → IsSignedState p.root.ring nonce (heard ++ line ∷ []) (state_after s task reply)
  after_line _ _ _ _ asks over (at_once reply) = same_state
  after_line _ _ _ _ asks over (in_a_turn (Step request) replied reply to given turn is) = same_state
  after_line _ _ _ _ asks over (in_a_turn (Cite numbers) replied reply to given turn is) = same_state
  after_line _ _ _ _ asks over (in_a_turn turn_requests.Checkpoint replied reply to given turn is) = same_state
  after_line _ _ _ _ asks over (in_a_turn (Login who n signature) replied reply to given turn is) =
      login_state p.root.ring nonce heard line s who n signature reply (is_done reply) refl over asks signed (λ done. turn_signed gives p turn.before who n signature replied given turn.turn (done_turn replied reply is done))
  after_line _ _ _ _ asks over (places.cites_none goal numbers proof replied reply to given turn is) = same_state
  after_line _ _ _ _ asks over (proves_none goal numbers proof cites fault to turn verdict_is) = same_state
  after_line _ _ _ _ asks over (issues goal numbers proof cites g at replied reply to given turn verdict_is second is) = same_state
  after_line _ _ _ _ asks over (places.without_memory (tasks.Reply reply)) = same_state
  after_line _ _ _ _ asks over (places.without_memory (tasks.Turn (Step request))) = same_state
  after_line _ _ _ _ asks over (places.without_memory (tasks.Turn (Cite numbers))) = same_state
  after_line _ _ _ _ asks over (places.without_memory (tasks.Turn turn_requests.Checkpoint)) = same_state
  after_line _ _ _ _ asks over (places.without_memory (tasks.Turn (Login who n signature))) = same_state
  after_line _ _ _ _ asks over (places.without_memory (tasks.Proof goal numbers proof)) = same_state

-- ---- sessions

all_of_both : (P : StoreEntry → Type 0) (xs ys : List StoreEntry) → AllByRecursion P xs → AllByRecursion P ys → AllByRecursion P (xs ++ ys)
all_of_both P [] ys one other = other
all_of_both P (x ∷ xs) ys one other = (one.0, all_of_both P xs ys one.1 other)

record IsBySession (ring : List KeyView) (nonce : List ℕ) (heard : List (List ℕ)) (end : SessionState) (given : List StoreEntry) : Type 0 where
  state : IsSignedState ring nonce heard end
  all : AllByRecursion (IsByAccepted ring nonce heard) given

by_session : (gives : List StoreEntry → ℤ → Type 0) (p : StorePass) (history : List StoreEntry) (nonce : List ℕ) (start : SessionState) (from : ℕ) (heard : List (List ℕ)) (answers : List LineReply) (end : SessionState) (to : ℕ) (given : List StoreEntry) →
    IsSignedState p.root.ring nonce [] start → LinesPlaced gives p history start from heard answers end to given → IsBySession p.root.ring nonce heard end given
by_session gives p history nonce start from _ _ _ _ _ signed no_line = record { state = signed; all = tt }
by_session gives p history nonce start from _ _ _ _ _ signed (one_more heard answers s at given line task reply to others placed is here) =
    let before = by_session gives p history nonce start from heard answers s at given signed placed in
    let here_by = line_by p.root.ring nonce heard gives p history at task reply to others (task_acts p.root.ring nonce heard s line task before.state.accepted is) here in
    record {
      state = after_line gives p history nonce heard line s at before.state task reply to others is (task_over s line task is) here;
      all = all_of_both (IsByAccepted p.root.ring nonce (heard ++ line ∷ [])) given others (all_more p.root.ring nonce heard (line ∷ []) given before.all) (all_more p.root.ring nonce heard (line ∷ []) others here_by);
    }

pub callers_accepted : (gives : List StoreEntry → ℤ → Type 0) (p : StorePass) (history : List StoreEntry) (nonce : List ℕ) (from : ℕ) (heard : List (List ℕ)) (answers : List LineReply) (end : SessionState) (to : ℕ) (given : List StoreEntry) →
    LinesPlaced gives p history (guest_with nonce) from heard answers end to given → AllByRecursion (IsByAccepted p.root.ring nonce heard) given
callers_accepted gives p history nonce from heard answers end to given placed = (by_session gives p history nonce (guest_with nonce) from heard answers end to given (record { nonce_is = refl; accepted = tt }) placed).all
