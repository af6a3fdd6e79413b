-- The entries that a session is given are of its own pass.
use Rattle.std.proofs.Common.{◌≡◌, ℕ, List, [], ◌∷◌, ◌++◌, Option, Some, None, refl}
use Rattle.std.specs.Prelude.{ℤ}
use Rattle.journal_records.specs.declared.event.Event.{Event}
use Rattle.access_history.specs.declared.request.StepRequest.{StepRequest}
use Rattle.access_history.specs.declared.reply.StepReply.{StepReply}
use Rattle.access_history.specs.Authority.{Authority}
use Rattle.std.specs.Option.{option_map}
use Rattle.access_history.specs.Base.{BaseView}
use Rattle.access_history.specs.Answer.{Answers, registered, withdrawn, issued, acted}
use Rattle.line_wire.specs.declared.reply.LineReply.{LineReply}
use Rattle.pcfs_store.specs.Entries.{Root, StoreEntry, happened, state_of_entries}
use Rattle.session_history.specs.declared.request.TurnRequest.{TurnRequest}
use Rattle.session_history.specs.declared.reply.TurnReply.{TurnReply}
use Rattle.journal_records.specs.Passes.{event_pass}
use Rattle.session_history.specs.Passes.{entry_pass, AllOfPass}
use Rattle.session_history.specs.Turn.{StorePass, authority_of_root, AnswersTurn, steps, makes, cites, cites_none, logs_in, rejects, Turn, was_stopped, answered, full, kept, failed}
use Rattle.session_history.specs.Turn as turns
use Rattle.session_history.specs.SessionState.{SessionState}
use Rattle.session_history.specs.declared.task.LineTask.{LineTask}
use Rattle.session_history.specs.Placed.{LinePlaced, at_once, in_a_turn, proves_none, issues, LinesPlaced, no_line, one_more}
use Rattle.session_history.specs.Placed as places

-- if there is an entry, it carries the number
abbrev IsOfPass : ℕ → Option StoreEntry → Type 0
IsOfPass pass None = Unit {0}
IsOfPass pass (Some entry) = entry_pass entry ≡ pass

event_of_answer : (authority : Authority) (state : BaseView) (pass : ℕ) (clock : ℤ) (request : StepRequest) (reply : StepReply) (event : Event) → Answers authority state pass clock request reply (Some event) → event_pass event ≡ pass
event_of_answer authority state pass clock request reply event (registered statement signature may) = refl
event_of_answer authority state pass clock request reply event (withdrawn number signature may) = refl
event_of_answer authority state pass clock request reply event (issued checked rising granted stand) = refl
event_of_answer authority state pass clock request reply event (acted caller op procaps admitted free) = refl

of_answer : (authority : Authority) (state : BaseView) (pass : ℕ) (clock : ℤ) (request : StepRequest) (reply : StepReply) (event : Option Event) → Answers authority state pass clock request reply event → IsOfPass pass (option_map happened event)
of_answer authority state pass clock request reply None answers = tt
of_answer authority state pass clock request reply (Some event) answers = event_of_answer authority state pass clock request reply event answers

of_turn_answer : (root : Root) (state : BaseView) (pass : ℕ) (clock : ℤ) (request : TurnRequest) (reply : TurnReply) (entry : Option StoreEntry) → AnswersTurn root state pass clock request reply entry → IsOfPass pass entry
of_turn_answer root state pass clock _ _ _ (steps request reply event answers) = of_answer (authority_of_root root) state pass clock request reply event answers
of_turn_answer root state pass clock _ _ _ makes = refl
of_turn_answer root state pass clock _ _ _ (cites numbers cited found) = tt
of_turn_answer root state pass clock _ _ _ (cites_none numbers number absent) = tt
of_turn_answer root state pass clock _ _ _ (logs_in who nonce signature is) = tt
of_turn_answer root state pass clock _ _ _ (rejects who nonce signature is) = tt

pub turn_given : (gives : List StoreEntry → ℤ → Type 0) (p : StorePass) (before : List StoreEntry) (request : TurnRequest) (reply : TurnReply) (given : List StoreEntry) → Turn gives p before request reply given → AllOfPass p.number given
turn_given gives p before request _ _ (was_stopped is) = tt
turn_given gives p before request _ _ (answered clock reply running shown answers) = tt
turn_given gives p before request _ _ (full clock reply entry running shown answers is_full) = tt
turn_given gives p before request _ _ (kept clock reply entry running shown answers room) = (of_turn_answer p.root (state_of_entries p.root before) p.number clock request reply (Some entry) answers, tt)
turn_given gives p before request _ _ (failed clock reply entry running shown answers room) = (refl, tt)
turn_given gives p before request _ _ turns.without_memory = tt

line_given : (gives : List StoreEntry → ℤ → Type 0) (p : StorePass) (history : List StoreEntry) (from : ℕ) (task : LineTask) (reply : LineReply) (to : ℕ) (given : List StoreEntry) → LinePlaced gives p history from task reply to given → AllOfPass p.number given
line_given gives p history from _ _ _ _ (at_once reply) = tt
line_given gives p history from _ _ _ _ (in_a_turn request found reply to given turn is) = turn_given gives p turn.before _ found given turn.turn
line_given gives p history from _ _ _ _ (places.cites_none goal numbers proof found reply to given turn is) = turn_given gives p turn.before _ found given turn.turn
line_given gives p history from _ _ _ _ (proves_none goal numbers proof cited fault to turn verdict_is) = tt
line_given gives p history from _ _ _ _ (issues goal numbers proof cited g at found reply to given turn verdict_is second is) = turn_given gives p second.before _ found given second.turn
line_given gives p history from _ _ _ _ (places.without_memory task) = tt

all_of_both : (pass : ℕ) (xs ys : List StoreEntry) → AllOfPass pass xs → AllOfPass pass ys → AllOfPass pass (xs ++ ys)
all_of_both pass [] ys one other = other
all_of_both pass (x ∷ xs) ys one other = (one.0, all_of_both pass xs ys one.1 other)

pub session_given : (gives : List StoreEntry → ℤ → Type 0) (p : StorePass) (history : List StoreEntry) (start : SessionState) (from : ℕ) (lines : List (List ℕ)) (answers : List LineReply) (end : SessionState) (to : ℕ) (given : List StoreEntry) →
    LinesPlaced gives p history start from lines answers end to given → AllOfPass p.number given
session_given gives p history start from _ _ _ _ _ no_line = tt
session_given gives p history start from _ _ _ _ _ (one_more lines answers s at given line task reply to others placed asks_for here) =
    all_of_both p.number given others (session_given gives p history start from lines answers s at given placed) (line_given gives p history at task reply to others here)
