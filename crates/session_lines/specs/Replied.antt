-- What becomes of a line of a session, and of its parts, while others have their turns (this
-- project's own).
use Rattle.std.specs.Prelude.{◌≡◌, ◌≢◌, ℕ, ℤ, ◌≤◌, List, length, Ok, Err}
use mathlib.Core.List.{IsPrefix}
use Rattle.tree_lock.specs.Seen.{PassView}
use Rattle.bl_syntax.specs.declared.grant.Goal.{Goal}
use Rattle.bl_syntax.specs.Grant.{GrantView}
use Rattle.proof_term.specs.Proof.{ProofView}
use Rattle.proof_verifier.specs.declared.cites.Cite.{Cite}
use Rattle.proof_verifier.specs.declared.fault.CheckFault.{CheckFault}
use Rattle.proof_verifier.specs.Cited.{statements_of}
use Rattle.proof_verifier.specs.CheckedView.{checked_view}
use Rattle.proof_verifier.specs.Verdict.{verdict}
use Rattle.access_history.specs.declared.request.StepRequest.TheVariants.{Issue}
use Rattle.line_wire.specs.declared.reply.LineReply.{LineReply}
use Rattle.line_wire.specs.declared.reply.LineReply.TheVariants as replies
use Rattle.pcfs_store.specs.Entries.{StoreEntry}
use Rattle.pcfs_store.specs.StoreView.{StoreView}
use Rattle.session_history.specs.declared.request.TurnRequest.{TurnRequest}
use Rattle.session_history.specs.declared.request.TurnRequest.TheVariants.{Step}
use Rattle.session_history.specs.declared.reply.TurnReply.{TurnReply}
use Rattle.session_history.specs.declared.task.LineTask.{LineTask}
use Rattle.session_history.specs.declared.task.LineTask.TheVariants as tasks
use Rattle.session_history.specs.SessionState.{SessionState}
use Rattle.session_history.specs.Tasks.{IsTaskOf}
use Rattle.session_history.specs.Placed.{IsReplyOf, LinePlaced, state_after}
use Rattle.session_lines.specs.Turns.{CountsTurns, least_turns, task_turns}
use Rattle.shared_store.specs.declared.entry.LockEntry.{LockEntry}
use Rattle.shared_store.specs.LockHistory.{lock_history}
use Rattle.shared_store.specs.Turning.{pass_at}
use Rattle.shared_store.specs.Asking.{entries_seen, HasHistory, PassGoesOn, InEachHistory, HasAsked}

-- the task is done in turns
abbrev pub NeedsTurns : LineTask → Type 0
NeedsTurns (tasks.Reply reply) = ⊥
NeedsTurns (tasks.Turn request) = Unit {0}
NeedsTurns (tasks.Proof goal numbers proof) = Unit {0}

module _ {D : Type 0} (gives : List StoreEntry → ℤ → Type 0) where
  -- the pass took a turn, and this is told of it
  pub record HasTold (request : TurnRequest) (old new : PassView (LockEntry D)) (reply : LineReply) : Type 0 where
    pub replied : TurnReply
    pub asked : HasAsked gives request old new replied
    pub says : IsReplyOf replied reply

  -- The proof was checked from these statements: it has a fault; or it grants its goal, and the
  -- pass took a turn to issue that; or memory ran out.
  pub data HasIssued (cites : List Cite) (goal : Goal) (proof : ProofView) (old new : PassView (LockEntry D)) : LineReply → Type 0 where
    refuted : (fault : CheckFault) → new ≡ old →
        verdict (statements_of cites) goal proof ≡ Err fault →
        HasIssued cites goal proof old new (replies.Unproved fault)
    granted : (g : GrantView) (reply : LineReply) →
        verdict (statements_of cites) goal proof ≡ Ok g →
        HasTold (Step (Issue (checked_view cites goal proof g))) old new reply →
        HasIssued cites goal proof old new reply
    without_memory : new ≡ old → HasIssued cites goal proof old new replies.NoMemory

  -- where a task is placed in each history that begins with what the pass has seen, from a place up
  -- to which it had seen all before: if it took turns, at the end of what the pass saw in the last of
  -- them, so that no reply is decided over a state earlier than that
  pub record IsPlacedFrom (task : LineTask) (old new : PassView (LockEntry D)) (reply : LineReply) (given : List StoreEntry) (from : ℕ) : Type 0 where
    pub to : ℕ
    pub within : to ≤ entries_seen new
    pub latest : NeedsTurns task → reply ≢ replies.NoMemory → to ≡ entries_seen new
    pub placed : InEachHistory new (λ opening entries. LinePlaced gives (pass_at opening old.number) entries from task reply to given)

  -- The task was done: the pass goes on, and the reply is placed. If it took turns, what the pass
  -- has seen is the history of a store; and it took as many as its reply comes of, at most two.
  pub record HasDone (task : LineTask) (old new : PassView (LockEntry D)) (reply : LineReply) : Type 0 where
    pub given : List StoreEntry
    pub goes_on : PassGoesOn old new given
    pub placed : (from : ℕ) → from ≤ entries_seen old → IsPlacedFrom task old new reply given from
    pub known : NeedsTurns task → reply ≢ replies.NoMemory → (opening : StoreView D) ×
        HasHistory opening new
    pub turns : CountsTurns (task_turns task reply) 2 old.turns new.turns

  -- The line was answered: it asks for a task, which was done, and the session is in the state
  -- after it.
  pub record HasReplied (state : SessionState) (line : List ℕ) (old new : PassView (LockEntry D)) (after : SessionState) (reply : LineReply) : Type 0 where
    pub task : LineTask
    pub is_task : IsTaskOf state line task
    pub after_is : after ≡ state_after state task reply
    pub done : HasDone task old new reply
    pub turns : CountsTurns (least_turns reply) 2 old.turns new.turns

  -- What the pass has seen is the history of this store, which begins with these entries; and after
  -- them the reply is placed in it.
  pub record IsPlacedAfter (opening : StoreView D) (earlier : List StoreEntry) (task : LineTask)
      (old new : PassView (LockEntry D)) (reply : LineReply) (given : List StoreEntry) : Type 0
    where
      pub entries : List StoreEntry
      pub seen_is : new.seen ≡ lock_history opening entries
      pub begins : IsPrefix earlier entries
      pub to : ℕ
      pub placed : LinePlaced gives (pass_at opening old.number) entries (length earlier) task reply to given
