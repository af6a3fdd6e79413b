-- Laws of turns, lines and sessions: what is placed stays placed, what is given is the pass's own,
-- places do not go back, and each line and each turn has one outcome.
use Rattle.std.specs.Prelude.{◌+◌, ◌⊎◌, [], ◌∷◌, false, ◌≡◌, ◌≢◌, ℕ, ℤ, ◌≤◌, List, ◌++◌, length, take, true, codes, Option, Some, None, Ok}
use Rattle.std.specs.List.{AllByRecursion}
use mathlib.Core.List.{IsPrefix}
use Rattle.bl_syntax.specs.declared.grant.Goal.{Goal}
use Rattle.bl_syntax.specs.Grant.{GrantView}
use Rattle.proof_term.specs.Proof.{ProofView}
use Rattle.proof_verifier.specs.declared.cites.Cite.{Cite}
use Rattle.proof_verifier.specs.Cited.{statements_of}
use Rattle.proof_verifier.specs.CheckedView.{checked_view}
use Rattle.proof_verifier.specs.Verdict.{verdict}
use Rattle.policy_statement.specs.Messages.{login_message}
use Rattle.policy_statement.specs.Ring.{KeyView, is_accepted}
use Rattle.journal_records.specs.declared.event.Event.{Event}
use Rattle.journal_records.specs.declared.event.Event.TheVariants.{Registered, Issued, Withdrawn, Acted}
use Rattle.access_history.specs.declared.request.StepRequest.TheVariants.{Issue, Act}
use Rattle.access_history.specs.declared.reply.StepReply.{StepReply}
use Rattle.access_history.specs.declared.reply.StepReply.TheVariants.{Operation}
use Rattle.access_history.specs.Admission.{IsAdmitted}
use Rattle.access_history.specs.Citing.{numbers_of}
use Rattle.access_history.specs.Answer.{moment_of}
use Rattle.access_history.specs.Lawful.{IsLawful}
use Rattle.file_world.specs.declared.operation.Op.{Op}
use Rattle.file_world.specs.Effect.{refusal, reply as effect_reply}
use Rattle.procap.specs.declared.procap.Procap.{Procap}
use Rattle.line_wire.specs.declared.reply.LineReply.{LineReply}
use Rattle.line_wire.specs.declared.reply.LineReply.TheVariants as replies
use Rattle.pcfs_store.specs.Entries.{StoreEntry, happened, checkpointed, stopped, events_among, checkpoints_among, state_of_entries}
use Rattle.session_history.specs.declared.request.TurnRequest.{TurnRequest}
use Rattle.session_history.specs.declared.request.TurnRequest.TheVariants.{Step, Login}
use Rattle.session_history.specs.declared.request.TurnRequest.TheVariants as requests
use Rattle.session_history.specs.declared.reply.TurnReply.{TurnReply}
use Rattle.session_history.specs.declared.reply.TurnReply.TheVariants as turn_replies
use Rattle.session_history.specs.Passes.{AllOfPass, has_stop}
use Rattle.session_history.specs.Turn.{StorePass, authority_of_root, AnswersTurn, IsFullAfter, Turn, TurnPlaced, IsTurnFormed}
use Rattle.session_history.specs.SessionState.{SessionState, guest_with}
use Rattle.session_history.specs.declared.task.LineTask.{LineTask}
use Rattle.session_history.specs.declared.task.LineTask.TheVariants as tasks
use Rattle.session_history.specs.Tasks.{IsTaskOf, IsTaskFormed, IsNamed}
use Rattle.session_history.specs.Placed.{LinePlaced, LinesPlaced}

-- ---- histories that grow: `gives` says which moments the clock gives

-- a turn stays in its place where the history grows at its end
abbrev pub TurnsStayPlaced : (List StoreEntry → ℤ → Type 0) → Type 0
TurnsStayPlaced gives = (p : StorePass) (history more : List StoreEntry) (from : ℕ)
    (request : TurnRequest) (reply : TurnReply) (to : ℕ) (given : List StoreEntry) →
    TurnPlaced gives p history from request reply to given →
    TurnPlaced gives p (history ++ more) from request reply to given

-- so does a line
abbrev pub LinesStayPlaced : (List StoreEntry → ℤ → Type 0) → Type 0
LinesStayPlaced gives = (p : StorePass) (history more : List StoreEntry) (from : ℕ) (task : LineTask) (reply : LineReply) (to : ℕ) (given : List StoreEntry) →
    LinePlaced gives p history from task reply to given →
    LinePlaced gives p (history ++ more) from task reply to given

-- and so do the lines of a session
abbrev pub SessionsStayPlaced : (List StoreEntry → ℤ → Type 0) → Type 0
SessionsStayPlaced gives = (p : StorePass) (history more : List StoreEntry) (start : SessionState)
    (from : ℕ) (lines : List (List ℕ)) (answers : List LineReply) (end : SessionState) (to : ℕ)
    (given : List StoreEntry) →
    LinesPlaced gives p history start from lines answers end to given →
    LinesPlaced gives p (history ++ more) start from lines answers end to given

-- ---- what is given, and where

-- the entries that a session is given were all added in turns of its own pass
abbrev pub GivenAreOfPass : (List StoreEntry → ℤ → Type 0) → Type 0
GivenAreOfPass gives = (p : StorePass) (history : List StoreEntry) (start : SessionState) (from : ℕ)
    (lines : List (List ℕ)) (answers : List LineReply) (end : SessionState) (to : ℕ)
    (given : List StoreEntry) →
    LinesPlaced gives p history start from lines answers end to given → AllOfPass p.number given

-- places do not go back, and stay within the history
abbrev pub PlacesGoOn : (List StoreEntry → ℤ → Type 0) → Type 0
PlacesGoOn gives = (p : StorePass) (history : List StoreEntry) (start : SessionState) (from : ℕ)
    (lines : List (List ℕ)) (answers : List LineReply) (end : SessionState) (to : ℕ)
    (given : List StoreEntry) →
    from ≤ length history → LinesPlaced gives p history start from lines answers end to given →
    (from ≤ to) × (to ≤ length history)

-- A turn that is told that the store is stopped keeps no event and makes no checkpoint, and there
-- is a mark, which it found or which it adds; and a turn that adds a mark is told so.
abbrev pub StopsAreTold : (List StoreEntry → ℤ → Type 0) → Type 0
StopsAreTold gives = (p : StorePass) (before : List StoreEntry) (request : TurnRequest) (reply : TurnReply) (given : List StoreEntry) →
    Turn gives p before request reply given →
    (reply ≡ turn_replies.Stopped → (has_stop (before ++ given) ≡ true) × (events_among given ≡ []) × (checkpoints_among given ≡ 0)) ×
    (has_stop given ≡ true → reply ≡ turn_replies.Stopped)

-- A turn that is told that a checkpoint was made asked for one, and adds it, under the number of
-- its pass, and nothing else; and a turn that adds one is told so.
abbrev pub CheckpointsAreTold : (List StoreEntry → ℤ → Type 0) → Type 0
CheckpointsAreTold gives = (p : StorePass) (before : List StoreEntry) (request : TurnRequest) (reply : TurnReply) (given : List StoreEntry) →
    Turn gives p before request reply given →
    (reply ≡ turn_replies.Checkpointed → (request ≡ requests.Checkpoint) × (given ≡ checkpointed p.number ∷ [])) ×
    (checkpoints_among given ≢ 0 → reply ≡ turn_replies.Checkpointed)

-- a line is told that the store is stopped only where a mark is among the entries up to its place
abbrev pub StoppedAfterStop : (List StoreEntry → ℤ → Type 0) → Type 0
StoppedAfterStop gives = (p : StorePass) (history : List StoreEntry) (s : SessionState) (from : ℕ)
    (line : List ℕ) (task : LineTask) (to : ℕ) (given : List StoreEntry) →
    IsTaskOf s line task → LinePlaced gives p history from task replies.Stopped to given →
    has_stop (take to history) ≡ true

-- One of these lines asks that this name be logged in over this nonce, by a signature that it
-- brings and the ring accepts.
pub record HasSigned (ring : List KeyView) (nonce : List ℕ) (heard : List (List ℕ)) (who : List ℕ) : Type 0 where
  pub before : List (List ℕ)
  pub line : List ℕ
  pub after : List (List ℕ)
  pub among : heard ≡ before ++ line ∷ after
  pub state : SessionState
  pub signature : List ℕ
  pub asks : IsTaskOf state line (tasks.Turn (Login who nonce signature))
  pub accepted : is_accepted ring who (login_message who nonce) signature ≡ true

-- somebody logged in by one of these lines over this nonce; an operation is by who did
abbrev pub IsEventByAccepted : List KeyView → List ℕ → List (List ℕ) → Event → Type 0
IsEventByAccepted ring nonce heard (Acted pass caller op procaps moment) = HasSigned ring nonce heard caller
IsEventByAccepted ring nonce heard (Registered pass statement signature) = (who : List ℕ) ×
    HasSigned ring nonce heard who
IsEventByAccepted ring nonce heard (Issued pass cited proof grant) = (who : List ℕ) ×
    HasSigned ring nonce heard who
IsEventByAccepted ring nonce heard (Withdrawn pass number signature) = (who : List ℕ) ×
    HasSigned ring nonce heard who

-- what was being added when a disk failed is by who did: an event, or a checkpoint
abbrev pub IsMetByAccepted : List KeyView → List ℕ → List (List ℕ) → Option Event → Type 0
IsMetByAccepted ring nonce heard None = HasSigned ring nonce heard (codes "admin")
IsMetByAccepted ring nonce heard (Some event) = IsEventByAccepted ring nonce heard event

-- the same of each entry: a checkpoint is by `admin`, and a mark by whom that is which was being
-- added
abbrev pub IsByAccepted : List KeyView → List ℕ → List (List ℕ) → StoreEntry → Type 0
IsByAccepted ring nonce heard (happened event) = IsEventByAccepted ring nonce heard event
IsByAccepted ring nonce heard (checkpointed pass) = HasSigned ring nonce heard (codes "admin")
IsByAccepted ring nonce heard (stopped pass met) = IsMetByAccepted ring nonce heard met

-- In a session that is given entries one of its lines asks for a login over its nonce that the ring
-- accepts; each operation among them is by somebody of whom such a line says so, and each
-- checkpoint by `admin`.
abbrev pub CallersAreAccepted : (List StoreEntry → ℤ → Type 0) → Type 0
CallersAreAccepted gives = (p : StorePass) (history : List StoreEntry) (nonce : List ℕ) (from : ℕ)
    (lines : List (List ℕ)) (answers : List LineReply) (end : SessionState) (to : ℕ)
    (given : List StoreEntry) →
    LinesPlaced gives p history (guest_with nonce) from lines answers end to given →
    AllByRecursion (IsByAccepted p.root.ring nonce lines) given

-- what a task asks in a turn that may add an entry: what its line asks, or that the proof's grant
-- is issued, which the proof has from statements of the line's numbers
pub data Asks : LineTask → TurnRequest → Type 0 where
  in_one_turn : (request : TurnRequest) → Asks (tasks.Turn request) request
  by_a_proof : (goal : Goal) (numbers : List ℕ) (proof : ProofView) (cites : List Cite) (g : GrantView) →
      numbers_of cites ≡ numbers → verdict (statements_of cites) goal proof ≡ Ok g →
      Asks (tasks.Proof goal numbers proof) (Step (Issue (checked_view cites goal proof g)))

-- what was asked for: of a mark, that which was being added when a disk failed
abbrev pub asked_entry : StoreEntry → StoreEntry
asked_entry (happened event) = happened event
asked_entry (checkpointed pass) = checkpointed pass
asked_entry (stopped pass None) = checkpointed pass
asked_entry (stopped pass (Some event)) = happened event

-- One of these lines, which are placed in a history from this state on, asks for the entry: in the
-- session's state after the lines before it, it has a task; and what the task asks in a turn of the
-- pass, which finds the entries that the history has before this one, has an answer that adds the
-- entry, or of a mark what was being added when a disk failed, at a moment that the clock gives over
-- the entries that stand before it.
pub record IsAskedFor (gives : List StoreEntry → ℤ → Type 0) (p : StorePass)
    (history : List StoreEntry) (start : SessionState) (from : ℕ) (lines : List (List ℕ))
    (entry : StoreEntry) : Type 0 where
  pub earlier : List (List ℕ)
  pub line : List ℕ
  pub later : List (List ℕ)
  pub among : lines ≡ earlier ++ line ∷ later
  pub told : List LineReply
  pub state : SessionState
  pub at : ℕ
  pub added : List StoreEntry
  pub so_far : LinesPlaced gives p history start from earlier told state at added
  pub task : LineTask
  pub is_task : IsTaskOf state line task
  pub request : TurnRequest
  pub asks : Asks task request
  pub found : List StoreEntry
  pub begins : IsPrefix (found ++ entry ∷ []) history
  pub moment : ℤ
  pub shown : gives found moment
  pub answer : TurnReply
  pub answers : AnswersTurn p.root (state_of_entries p.root found) p.number moment request answer (Some (asked_entry entry))

-- each of these entries is one that a line asks for; and so is, of a mark, the event that was being
-- kept when a disk failed
abbrev pub AreAskedFor : (List StoreEntry → ℤ → Type 0) → StorePass → List StoreEntry → SessionState → ℕ →
    List (List ℕ) → List StoreEntry → Type 0
AreAskedFor gives p history start from lines given = AllByRecursion (IsAskedFor gives p history start from lines) given

-- so are all entries that a session is given
abbrev pub EntriesAreAskedFor : (List StoreEntry → ℤ → Type 0) → Type 0
EntriesAreAskedFor gives = (p : StorePass) (history : List StoreEntry) (start : SessionState) (from : ℕ) (lines : List (List ℕ))
    (answers : List LineReply) (end : SessionState) (to : ℕ) (given : List StoreEntry) →
    LinesPlaced gives p history start from lines answers end to given →
    AreAskedFor gives p history start from lines given

-- ---- one outcome

-- each line has a reply
abbrev pub LinesAreAnswered : (List StoreEntry → ℤ → Type 0) → Type 0
LinesAreAnswered gives = (p : StorePass) (history : List StoreEntry) (start : SessionState)
    (from : ℕ) (lines : List (List ℕ)) (answers : List LineReply) (end : SessionState) (to : ℕ)
    (given : List StoreEntry) →
    LinesPlaced gives p history start from lines answers end to given →
    length answers ≡ length lines

-- each line of a session has a task
abbrev pub LinesHaveATask : Type 0
LinesHaveATask = (s : SessionState) (line : List ℕ) → (task : LineTask) × IsTaskOf s line task

-- and one alone
abbrev pub LinesHaveOneTask : Type 0
LinesHaveOneTask = (s : SessionState) (line : List ℕ) (first second : LineTask) →
    IsTaskOf s line first → IsTaskOf s line second → first ≡ second

-- and what it asks may be asked
abbrev pub TasksAreFormed : Type 0
TasksAreFormed = (s : SessionState) (line : List ℕ) (task : LineTask) → IsNamed s.caller →
    IsTaskOf s line task → IsTaskFormed task

-- a turn that is not disturbed: memory did not run out, and no disk failed
pub record IsUndisturbed (reply : TurnReply) : Type 0 where
  pub had_memory : reply ≢ turn_replies.NoMemory
  pub not_stopped : reply ≢ turn_replies.Stopped

-- at a store that is not stopped a turn of what may be asked has an end that is not disturbed,
-- whatever it finds, if the clock gives some moment over that
abbrev pub TurnsHaveAnEnd : (List StoreEntry → ℤ → Type 0) → Type 0
TurnsHaveAnEnd gives = (p : StorePass) (before : List StoreEntry) (request : TurnRequest) (clock : ℤ) →
    gives before clock → IsTurnFormed request → has_stop before ≡ false →
    (reply : TurnReply) × (given : List StoreEntry) × Turn gives p before request reply given ×
    IsUndisturbed reply

-- so does a line of nobody or of a principal's name: after the entries of a lawful history, at a
-- store that is not stopped, it has a reply and entries which place it there, if the clock gives
-- some moment over the former
abbrev pub LinesHaveAnEnd : (List StoreEntry → ℤ → Type 0) → Type 0
LinesHaveAnEnd gives = (p : StorePass) (s : SessionState) (line : List ℕ) (task : LineTask) (before : List StoreEntry) (clock : ℤ) →
    gives before clock → IsNamed s.caller →
    IsLawful (authority_of_root p.root) p.root.base (events_among before) →
    has_stop before ≡ false → IsTaskOf s line task →
    (reply : LineReply) × (given : List StoreEntry) ×
    LinePlaced gives p (before ++ given) (length before) task reply (length before + length given) given ×
    (reply ≢ replies.NoMemory) × (reply ≢ replies.Stopped)

-- at one that is stopped nothing is decided
abbrev pub NothingAfterStop : (List StoreEntry → ℤ → Type 0) → Type 0
NothingAfterStop gives = (p : StorePass) (before : List StoreEntry) (request : TurnRequest) (reply : TurnReply) (given : List StoreEntry) →
    has_stop before ≡ true → Turn gives p before request reply given →
    (given ≡ []) × ((reply ≡ turn_replies.Stopped) ⊎ (reply ≡ turn_replies.NoMemory))

-- What becomes of an answer that keeps an event: it is told and the event is kept; unless the event
-- does not fit or has no number, a disk fails under it, or memory runs out.
pub data IsKeptUnless (p : StorePass) (before : List StoreEntry) (told : StepReply) (event : Event) : TurnReply → List StoreEntry → Type 0 where
  kept : (IsFullAfter p.root before (happened event) → ⊥) →
      IsKeptUnless p before told event (turn_replies.Step told) (happened event ∷ [])
  unless_full : IsFullAfter p.root before (happened event) →
      IsKeptUnless p before told event turn_replies.Full []
  unless_stopped : IsKeptUnless p before told event turn_replies.Stopped (stopped p.number (Some event) ∷ [])
  unless_out_of_memory : IsKeptUnless p before told event turn_replies.NoMemory []

-- An operation whose procaps match and hold, and to which the world has an effect, gets the reply
-- of the effect and is kept, at a store that is not stopped, unless one of these stands against it.
-- So nobody is denied what a grant gives.
abbrev pub AdmittedAreDone : Type 0
AdmittedAreDone = (p : StorePass) (before : List StoreEntry) (clock : ℤ) (caller : List ℕ) (op : Op) (procaps : List Procap) (reply : TurnReply)
    (given : List StoreEntry) → has_stop before ≡ false →
    (let state = state_of_entries p.root before in
    IsAdmitted p.root.key state caller op procaps (moment_of state clock) →
    refusal state.world op ≡ None →
    Turn (λ _ moment. moment ≡ clock) p before (Step (Act caller op procaps)) reply given →
    IsKeptUnless p before (Operation (effect_reply state.world op)) (Acted p.number caller op procaps (moment_of state clock)) reply given)

-- over a lawful history a turn has one end at a moment, if it is not disturbed
abbrev pub TurnsHaveOneEnd : Type 0
TurnsHaveOneEnd = (p : StorePass) (before : List StoreEntry) (request : TurnRequest) (clock : ℤ) (first second : TurnReply) (given other : List StoreEntry) →
    IsLawful (authority_of_root p.root) p.root.base (events_among before) →
    Turn (λ _ moment. moment ≡ clock) p before request first given → IsUndisturbed first →
    Turn (λ _ moment. moment ≡ clock) p before request second other → IsUndisturbed second →
    (first ≡ second) × (given ≡ other)
