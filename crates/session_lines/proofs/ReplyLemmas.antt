-- What a turn replies, and who is logged in after it.
use Rattle.std.proofs.Common.{◌≡◌, ◌∙◌, ◌⊎◌, inl, inr, ℕ, List, [], Bool, true, false, Option, Some, None, refl, sym}
use Rattle.std.specs.Prelude.{ℤ, ◌≢◌, if◌then◌else◌}
use Rattle.proof_verifier.specs.declared.cites.Cite.{Cite as CiteOf}
use Rattle.proof_verifier.specs.declared.fault.CheckFault.{CheckFault}
use Rattle.proof_verifier.specs.declared.fault.CheckFault.TheVariants as check_faults
use Rattle.line_wire.specs.declared.reply.LineReply.{LineReply}
use Rattle.line_wire.specs.declared.reply.LineReply.TheVariants as replies
use Rattle.access_history.specs.Base.{BaseView}
use Rattle.pcfs_store.specs.Entries.{Root, StoreEntry, state_of_entries}
use Rattle.session_history.specs.declared.request.TurnRequest.{TurnRequest}
use Rattle.session_history.specs.declared.request.TurnRequest.TheVariants.{Step, Cite, Checkpoint, Login}
use Rattle.session_history.specs.declared.reply.TurnReply.{TurnReply}
use Rattle.session_history.specs.declared.reply.TurnReply.TheVariants as turn_replies
use Rattle.session_history.specs.declared.task.LineTask.{LineTask}
use Rattle.session_history.specs.declared.task.LineTask.TheVariants as tasks
use Rattle.session_history.specs.Turn.{StorePass, AnswersTurn, Turn}
use Rattle.session_history.specs.Turn as turns
use Rattle.session_history.specs.SessionState.{SessionState}
use Rattle.session_history.specs.Placed.{is_done, after_login, after_turn, state_after}
use Rattle.session_history.proofs.EndLemmas.{single_not_cited}
use Rattle.session_lines.specs.Logins.{IsTellable, caller_after}
use Rattle.session_history.specs.Tasks.{IsSingle}

-- ---- what a turn replies

-- what is no statements can be told
pub tellable_else : (reply : TurnReply) → ((cites : List CiteOf) → reply ≡ turn_replies.Cited cites → ⊥) → IsTellable reply
tellable_else (turn_replies.Step reply) other = tt
tellable_else (turn_replies.Cited cites) other = other cites refl
tellable_else turn_replies.LoggedIn other = tt
tellable_else turn_replies.Checkpointed other = tt
tellable_else turn_replies.Full other = tt
tellable_else turn_replies.Stopped other = tt
tellable_else turn_replies.NoMemory other = tt

-- a turn that asks for no statements is given none
pub tellable : (gives : List StoreEntry → ℤ → Type 0) (p : StorePass) (before : List StoreEntry) (request : TurnRequest) (reply : TurnReply) (given : List StoreEntry) → IsSingle request → Turn gives p before request reply given → IsTellable reply
tellable gives p before request reply given single turn = tellable_else reply (single_not_cited gives p before request reply given single turn)

-- statements are given without an entry
keeps_none : (root : Root) (state : BaseView) (pass : ℕ) (clock : ℤ) (numbers : List ℕ) (reply : TurnReply) (entry : Option StoreEntry) → AnswersTurn root state pass clock (Cite numbers) reply entry → entry ≡ None
keeps_none root state pass clock _ _ _ (turns.cites numbers cited found) = refl
keeps_none root state pass clock _ _ _ (turns.cites_none numbers number absent) = refl

keeps_no_event : (root : Root) (state : BaseView) (pass : ℕ) (clock : ℤ) (numbers : List ℕ) (reply : TurnReply) (entry : StoreEntry) → AnswersTurn root state pass clock (Cite numbers) reply (Some entry) → ⊥
keeps_no_event root state pass clock numbers reply entry answers = let none : ◌≡◌ {A = Option StoreEntry} (Some entry) None = keeps_none root state pass clock numbers reply (Some entry) answers in cc

-- a turn for statements adds nothing
pub cites_nothing_more : (gives : List StoreEntry → ℤ → Type 0) (p : StorePass) (before : List StoreEntry) (numbers : List ℕ) (reply : TurnReply) (given : List StoreEntry) → Turn gives p before (Cite numbers) reply given → given ≡ []
cites_nothing_more gives p before numbers _ _ (turns.was_stopped is) = refl
cites_nothing_more gives p before numbers _ _ (turns.answered clock reply running shown answers) = refl
cites_nothing_more gives p before numbers _ _ (turns.full clock reply entry running shown answers is_full) = refl
cites_nothing_more gives p before numbers _ _ (turns.kept clock reply entry running shown answers room) = absurd (keeps_no_event p.root (state_of_entries p.root before) p.number clock numbers reply entry answers)
cites_nothing_more gives p before numbers _ _ (turns.failed clock reply entry running shown answers room) = absurd (keeps_no_event p.root (state_of_entries p.root before) p.number clock numbers reply entry answers)
cites_nothing_more gives p before numbers _ _ turns.without_memory = refl

-- what is told of a proof that was refused is not that the store is stopped
pub unproved_not_stopped : (fault : CheckFault) (reply : LineReply) → (reply ≡ replies.NoMemory) ⊎ ((reply ≡ replies.Unproved fault) × (fault ≢ check_faults.NoMemory)) → reply ≡ replies.Stopped → ⊥
unproved_not_stopped fault reply (inl is) same = let both : replies.NoMemory ≡ replies.Stopped = sym is ∙ same in cc
unproved_not_stopped fault reply (inr is) same = let both : replies.Unproved fault ≡ replies.Stopped = sym is.0 ∙ same in cc

-- ---- who is logged in

abbrev pub named : List ℕ → Option (List ℕ) → SessionState
named nonce caller = record { nonce = nonce; caller = caller }

no_login : (s : SessionState) (done : Bool) → named s.nonce (if done then s.caller else s.caller) ≡ s
no_login s true = refl
no_login s false = refl

with_login : (s : SessionState) (who : List ℕ) (done : Bool) → named s.nonce (if done then Some who else s.caller) ≡ after_login s who done
with_login s who true = refl
with_login s who false = refl

pub state_turn : (s : SessionState) (request : TurnRequest) (reply : LineReply) → named s.nonce (caller_after s.caller request reply) ≡ after_turn s request reply
state_turn s (Step request) reply = no_login s (is_done reply)
state_turn s (Cite numbers) reply = no_login s (is_done reply)
state_turn s Checkpoint reply = no_login s (is_done reply)
state_turn s (Login who nonce signature) reply = with_login s who (is_done reply)

-- if memory runs out, nobody else is logged in
pub state_without_memory : (s : SessionState) (task : LineTask) → s ≡ state_after s task replies.NoMemory
state_without_memory s (tasks.Reply reply) = refl
state_without_memory s (tasks.Turn (Step request)) = refl
state_without_memory s (tasks.Turn (Cite numbers)) = refl
state_without_memory s (tasks.Turn Checkpoint) = refl
state_without_memory s (tasks.Turn (Login who nonce signature)) = refl
state_without_memory s (tasks.Proof goal numbers proof) = refl
