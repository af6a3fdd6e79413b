-- Lines of a session and their replies, while others have their turns (this project's own).
use Rattle.std.specs.Prelude.{◌≡◌, ◌⊎◌, ℕ, ℤ, ◌+◌, ◌*◌, ◌≤◌, List, [], ◌∷◌, length, Option}
use Rattle.tree_lock.specs.Seen.{PassView}
use Rattle.line_wire.specs.declared.reply.LineReply.{LineReply}
use Rattle.line_wire.specs.declared.reply.LineReply.TheVariants.{Stopped}
use Rattle.pcfs_store.specs.Entries.{StoreEntry}
use Rattle.session_history.specs.SessionState.{SessionState}
use Rattle.session_history.specs.Placed.{LinesPlaced}
use Rattle.shared_store.specs.declared.entry.LockEntry.{LockEntry}
use Rattle.shared_store.specs.Turning.{pass_at}
use Rattle.shared_store.specs.Asking.{entries_seen, PassGoesOn, InEachHistory, HasSeenFault}
use Rattle.session_lines.specs.Replied.{HasReplied}
use Rattle.session_lines.specs.Turns.{CountsTurns, least_turns}

-- it is told among these that the store is stopped
abbrev pub SaysStopped : List LineReply → Type 0
SaysStopped [] = ⊥
SaysStopped (reply ∷ answers) = (reply ≡ Stopped) ⊎ SaysStopped answers

-- so many turns replies come of at least
abbrev pub turns_of : List LineReply → ℕ
turns_of [] = 0
turns_of (reply ∷ answers) = least_turns reply + turns_of answers

abbrev pub session_of : List ℕ → Option (List ℕ) → SessionState
session_of nonce caller = record { nonce = nonce; caller = caller }

-- Lines were answered one after the other, each from one moment of the pass to a later one: so what
-- holds of each holds at its own moments, and a reply that keeps nothing is decided over all that
-- the pass had seen when its last turn ended.
pub data AreAnswered {D : Type 0} (gives : List StoreEntry → ℤ → Type 0) : SessionState →
    PassView (LockEntry D) → List (List ℕ) → List LineReply → SessionState →
    PassView (LockEntry D) → Type 0 where
  none_more : (state : SessionState) (at : PassView (LockEntry D)) →
      AreAnswered gives state at [] [] state at
  next_one : (state : SessionState) (old : PassView (LockEntry D)) (line : List ℕ)
      (reply : LineReply) (after : SessionState) (between : PassView (LockEntry D))
      (lines : List (List ℕ)) (answers : List LineReply) (end : SessionState)
      (new : PassView (LockEntry D)) → HasReplied gives state line old between after reply →
      AreAnswered gives after between lines answers end new →
      AreAnswered gives state old (line ∷ lines) (reply ∷ answers) end new

module _ {D : Type 0} (faults : D → ℕ) (gives : List StoreEntry → ℤ → Type 0) where
  -- where the lines are placed in each history that begins with what the pass has seen, from this
  -- place on
  pub record AreSaidFrom (start : SessionState) (old new : PassView (LockEntry D))
      (lines : List (List ℕ)) (answers : List LineReply) (end : SessionState)
      (given : List StoreEntry) (from : ℕ) : Type 0 where
    pub to : ℕ
    pub within : to ≤ entries_seen new
    pub placed : InEachHistory new (λ opening entries. LinesPlaced gives (pass_at opening old.number) entries start from lines answers end to given)

  -- Lines were answered, from one state of a session and one moment of its pass to later ones: the
  -- pass goes on, and the replies are placed, from any place up to which it had seen all before.
  -- That the store is stopped is told only if the pass has seen that a disk failed.
  pub record HasSaid (start : SessionState) (old new : PassView (LockEntry D))
      (lines : List (List ℕ)) (answers : List LineReply) (end : SessionState) : Type 0 where
    pub given : List StoreEntry
    pub goes_on : PassGoesOn old new given
    pub placed : (from : ℕ) → from ≤ entries_seen old →
        AreSaidFrom start old new lines answers end given from
    pub stopped : SaysStopped answers → HasSeenFault faults new
    pub turns : CountsTurns (turns_of answers) (2 * length lines) old.turns new.turns
    pub answered : AreAnswered gives start old lines answers end new
