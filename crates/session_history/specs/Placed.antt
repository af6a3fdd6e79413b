-- The lines of a session in a history that others grow: each takes its turns at places that do not
-- go back, and its reply is the answer over what was there (this project's own).
use Rattle.std.specs.Prelude.{◌≡◌, ℕ, ℤ, List, [], ◌∷◌, ◌++◌, Bool, true, false, Ok, Err}
use Rattle.bl_syntax.specs.declared.grant.Goal.{Goal}
use Rattle.bl_syntax.specs.Grant.{GrantView}
use Rattle.proof_term.specs.Proof.{ProofView}
use Rattle.proof_verifier.specs.declared.cites.Cite.{Cite}
use Rattle.proof_verifier.specs.declared.fault.CheckFault.{CheckFault}
use Rattle.proof_verifier.specs.Cited.{statements_of}
use Rattle.proof_verifier.specs.CheckedView.{checked_view}
use Rattle.proof_verifier.specs.Verdict.{verdict}
use Rattle.access_history.specs.declared.request.StepRequest.TheVariants.{Issue}
use Rattle.line_wire.specs.declared.reply.LineReply.{LineReply}
use Rattle.line_wire.specs.declared.reply.LineReply.TheVariants as replies
use Rattle.pcfs_store.specs.Entries.{StoreEntry}
use Rattle.session_history.specs.declared.request.TurnRequest.{TurnRequest}
use Rattle.session_history.specs.declared.request.TurnRequest.TheVariants.{Step, Cite as CiteOf, Login}
use Rattle.session_history.specs.declared.request.TurnRequest.TheVariants as requests
use Rattle.session_history.specs.declared.reply.TurnReply.{TurnReply}
use Rattle.session_history.specs.declared.reply.TurnReply.TheVariants as turn_replies
use Rattle.session_history.specs.Turn.{StorePass, TurnPlaced}
use Rattle.session_history.specs.SessionState.{SessionState, with_caller}
use Rattle.session_history.specs.declared.task.LineTask.{LineTask}
use Rattle.session_history.specs.declared.task.LineTask.TheVariants as tasks
use Rattle.session_history.specs.Tasks.{IsTaskOf}

-- What a line is told for which its turn replies this. Statements are told to nobody.
abbrev pub IsReplyOf : TurnReply → LineReply → Type 0
IsReplyOf (turn_replies.Step reply) line = line ≡ replies.Step reply
IsReplyOf (turn_replies.Cited cites) line = ⊥
IsReplyOf turn_replies.LoggedIn line = line ≡ replies.Done
IsReplyOf turn_replies.Checkpointed line = line ≡ replies.Checkpointed
IsReplyOf turn_replies.Full line = line ≡ replies.Full
IsReplyOf turn_replies.Stopped line = line ≡ replies.Stopped
IsReplyOf turn_replies.NoMemory line = line ≡ replies.NoMemory

-- The reply to what a line asks, from the first `from` entries of the history on; how many there
-- are after its last turn, and the entries that it was given. Between the two turns of a proof
-- others may have theirs, and the second is
-- answered over what is there then: the issue stands only if the statements still do. If memory
-- runs out instead of a reply, the next line may go on from where this one began.
pub data LinePlaced (gives : List StoreEntry → ℤ → Type 0) (p : StorePass)
    (history : List StoreEntry) (from : ℕ) : LineTask → LineReply → ℕ → List StoreEntry → Type 0 where
  -- no turn is taken
  at_once : (reply : LineReply) → LinePlaced gives p history from (tasks.Reply reply) reply from []
  -- one turn
  in_a_turn : (request : TurnRequest) (replied : TurnReply) (reply : LineReply) (to : ℕ) (given : List StoreEntry) →
      TurnPlaced gives p history from request replied to given → IsReplyOf replied reply →
      LinePlaced gives p history from (tasks.Turn request) reply to given
  -- the turn for the statements gives none
  cites_none : (goal : Goal) (numbers : List ℕ) (proof : ProofView) (replied : TurnReply) (reply : LineReply) (to : ℕ) (given : List StoreEntry) →
      TurnPlaced gives p history from (CiteOf numbers) replied to given → IsReplyOf replied reply →
      LinePlaced gives p history from (tasks.Proof goal numbers proof) reply to given
  -- it gives them, and the proof from them has a fault
  proves_none : (goal : Goal) (numbers : List ℕ) (proof : ProofView) (cites : List Cite) (fault : CheckFault) (to : ℕ) →
      TurnPlaced gives p history from (CiteOf numbers) (turn_replies.Cited cites) to [] →
      verdict (statements_of cites) goal proof ≡ Err fault → LinePlaced gives p history from (tasks.Proof goal numbers proof) (replies.Unproved fault) to []
  -- it gives them, the proof grants its goal, and a second turn issues that
  issues : (goal : Goal) (numbers : List ℕ) (proof : ProofView) (cites : List Cite) (g : GrantView)
      (at : ℕ) (replied : TurnReply) (reply : LineReply) (to : ℕ) (given : List StoreEntry) →
      TurnPlaced gives p history from (CiteOf numbers) (turn_replies.Cited cites) at [] →
      verdict (statements_of cites) goal proof ≡ Ok g →
      TurnPlaced gives p history at (Step (Issue (checked_view cites goal proof g))) replied to given → IsReplyOf replied reply →
      LinePlaced gives p history from (tasks.Proof goal numbers proof) reply to given
  -- memory ran out
  without_memory : (task : LineTask) → LinePlaced gives p history from task replies.NoMemory from []

-- the line was done
abbrev pub is_done : LineReply → Bool
is_done replies.Done = true
is_done (replies.Step reply) = false
is_done (replies.Checked g) = false
is_done (replies.Unproved fault) = false
is_done (replies.Faulty fault) = false
is_done replies.TooLong = false
is_done replies.NotLoggedIn = false
is_done replies.Checkpointed = false
is_done replies.Full = false
is_done replies.Stopped = false
is_done replies.NoMemory = false

-- after a login that was done, or was not
abbrev pub after_login : SessionState → List ℕ → Bool → SessionState
after_login s who true = with_caller s who
after_login s who false = s

abbrev pub after_turn : SessionState → TurnRequest → LineReply → SessionState
after_turn s (Step request) reply = s
after_turn s (CiteOf numbers) reply = s
after_turn s requests.Checkpoint reply = s
after_turn s (Login who nonce signature) reply = after_login s who (is_done reply)

-- who is logged in after a reply: a login that was accepted changes it, and nothing else does
abbrev pub state_after : SessionState → LineTask → LineReply → SessionState
state_after s (tasks.Reply answer) reply = s
state_after s (tasks.Turn request) reply = after_turn s request reply
state_after s (tasks.Proof goal numbers proof) reply = s

-- The lines of a session are placed in a history, from the first `from` entries on and from this
-- state: each line from where the one before it came to. Then the session has this state, it came
-- to the first `to` entries, and the
-- history has the given entries in this order among those of others.
pub data LinesPlaced (gives : List StoreEntry → ℤ → Type 0) (p : StorePass) (history : List StoreEntry) (start : SessionState) (from : ℕ) : List (List ℕ) →
    List LineReply → SessionState → ℕ → List StoreEntry → Type 0 where
  no_line : LinesPlaced gives p history start from [] [] start from []
  one_more : (lines : List (List ℕ)) (answers : List LineReply) (s : SessionState) (at : ℕ)
      (given : List StoreEntry) (line : List ℕ) (task : LineTask) (reply : LineReply) (to : ℕ)
      (more : List StoreEntry) →
      LinesPlaced gives p history start from lines answers s at given → IsTaskOf s line task →
      LinePlaced gives p history at task reply to more →
      LinesPlaced gives p history start from (lines ++ line ∷ []) (answers ++ reply ∷ []) (state_after s task reply) to (given ++ more)
