-- Messages of a connection and their replies, while others have their turns (this project's own).
use Rattle.std.specs.Prelude.{◌≡◌, ◌≢◌, ◌≤◌, ◌⊎◌, ℕ, ℤ, List, [], ◌∷◌, ◌++◌, length}
use Rattle.tree_lock.specs.Seen.{PassView}
use Rattle.line_wire.specs.declared.reply.LineReply.TheVariants as lines
use Rattle.line_wire.specs.ReplyText.{reply_text}
use Rattle.pcfs_store.specs.Entries.{StoreEntry}
use Rattle.shared_store.specs.declared.entry.LockEntry.{LockEntry}
use Rattle.shared_store.specs.Turning.{pass_at}
use Rattle.pcfs_store.specs.StoreView.{StoreView}
use Rattle.session_lines.specs.Turns.{CountsTurns}
use Rattle.shared_store.specs.Asking.{entries_seen, HasHistory, PassGoesOn, InEachHistory, HasSeenFault}
use Rattle.nine_messages.specs.Requests.{RequestView, MessageView}
use Rattle.nine_messages.specs.Replies.{ReplyView, rerror}
use Rattle.nine_fids.specs.declared.connection.Connection.{Connection}
use Rattle.nine_fids.specs.States.{begun_with}
use Rattle.nine_front.specs.Placed.{MessagePlaced, MessagesPlaced}
use Rattle.nine_front.specs.Turns.{message_turns, messages_turns}

-- the reply says that the store is stopped
abbrev pub IsStopped : ReplyView → Type 0
IsStopped reply = reply ≡ rerror (reply_text lines.Stopped)

-- one of these does
abbrev pub SaysStopped : List ReplyView → Type 0
SaysStopped [] = ⊥
SaysStopped (reply ∷ replies) = IsStopped reply ⊎ SaysStopped replies

module _ {D : Type 0} (faults : D → ℕ) (gives : List StoreEntry → ℤ → Type 0) where
  -- where a request is placed in each history that begins with what the pass has seen, from a place
  -- up to which it had seen all before, with so many turns: if it took any, at the end of what the
  -- pass saw in the last of them, so that no reply is decided over a state earlier than that; if it
  -- took none, at that place
  pub record IsPlacedFrom (s : Connection) (m : RequestView) (old new : PassView (LockEntry D))
      (reply : ReplyView) (after : Connection) (given : List StoreEntry) (count from : ℕ) : Type 0 where
    pub to : ℕ
    pub within : to ≤ entries_seen new
    pub latest : count ≢ 0 → to ≡ entries_seen new
    pub still : count ≡ 0 → to ≡ from
    pub placed : InEachHistory new (λ opening entries.
        (one : MessagePlaced gives (pass_at opening old.number) entries from s m reply after to given)
        × (length (message_turns one) ≡ count))

  -- A request was answered: the pass goes on, and the reply is placed. The pass took as many
  -- turns as the reply has; if it took any, what it has seen is the history of a store, and if
  -- it took none, it is as it was. That the store is stopped is told only if the pass has seen
  -- that a disk failed.
  pub record HasAnswered (s : Connection) (m : RequestView) (old new : PassView (LockEntry D))
      (reply : ReplyView) (after : Connection) : Type 0 where
    pub given : List StoreEntry
    pub goes_on : PassGoesOn old new given
    pub count : ℕ
    pub turns : CountsTurns count count old.turns new.turns
    pub known : count ≢ 0 → (opening : StoreView D) × HasHistory opening new
    pub still : count ≡ 0 → new ≡ old
    pub placed : (from : ℕ) → from ≤ entries_seen old →
        IsPlacedFrom s m old new reply after given count from
    pub stopped : IsStopped reply → HasSeenFault faults new

  -- Messages were answered one after the other, each from one moment of the pass to a later one: so
  -- what holds of each holds at its own moments, and a reply that keeps nothing is decided over all
  -- that the pass had seen when its last turn ended.
  pub data AreAnswered (start : Connection) (old : PassView (LockEntry D)) :
      List MessageView → List ReplyView → Connection → PassView (LockEntry D) → Type 0 where
    none_yet : AreAnswered start old [] [] start old
    next_one : (messages : List MessageView) (replies : List ReplyView) (s : Connection)
        (between : PassView (LockEntry D)) (m : MessageView) (reply : ReplyView) (after : Connection)
        (new : PassView (LockEntry D)) →
        AreAnswered start old messages replies s between →
        HasAnswered s m.request between new reply after →
        AreAnswered start old (messages ++ m ∷ []) (replies ++ reply ∷ []) after new

  -- where messages are placed in each such history, as one is
  pub record AreSaidFrom (start : Connection) (old new : PassView (LockEntry D))
      (messages : List MessageView) (replies : List ReplyView) (end : Connection)
      (given : List StoreEntry) (count from : ℕ) : Type 0 where
    pub to : ℕ
    pub within : to ≤ entries_seen new
    pub latest : count ≢ 0 → to ≡ entries_seen new
    pub still : count ≡ 0 → to ≡ from
    pub placed : InEachHistory new (λ opening entries.
        (all : MessagesPlaced gives (pass_at opening old.number) entries start from messages replies end to given)
        × (length (messages_turns all) ≡ count))

  -- messages were answered, each, from one state of a connection and one moment of its pass to
  -- later ones, in as many turns as they have
  pub record HasSaid (start : Connection) (old new : PassView (LockEntry D))
      (messages : List MessageView) (replies : List ReplyView) (end : Connection) : Type 0 where
    pub given : List StoreEntry
    pub goes_on : PassGoesOn old new given
    pub count : ℕ
    pub turns : CountsTurns count count old.turns new.turns
    pub known : count ≢ 0 → (opening : StoreView D) × HasHistory opening new
    pub still : count ≡ 0 → new ≡ old
    pub placed : (from : ℕ) → from ≤ entries_seen old →
        AreSaidFrom start old new messages replies end given count from
    pub each : length replies ≡ length messages
    pub stopped : SaysStopped replies → HasSeenFault faults new
    pub answered : AreAnswered start old messages replies end new

  -- A connection with this nonce answered these messages, each with one reply, from its beginning
  -- and one moment of its pass to a later one. In each history that begins with what the pass has
  -- seen then, the replies are placed after all that it had seen at first; and the pass's own
  -- entries grew by those that the replies were given. The pass took as many turns as they have: if
  -- any, what it has seen is the history of a store, and the replies are placed up to the end of
  -- that, so the last that took a turn is decided over all that this found; if none, the pass is as
  -- it was. And so each message was answered, from one moment of the pass to a later one.
  pub record Speaks (nonce : List ℕ) (old new : PassView (LockEntry D))
      (messages : List MessageView) (replies : List ReplyView) : Type 0 where
    pub end : Connection
    pub to : ℕ
    pub within : to ≤ entries_seen new
    pub given : List StoreEntry
    pub goes_on : PassGoesOn old new given
    pub count : ℕ
    pub turns : CountsTurns count count old.turns new.turns
    pub placed : InEachHistory new (λ opening entries.
        (all : MessagesPlaced gives (pass_at opening old.number) entries (begun_with nonce) (entries_seen old) messages replies end to given)
        × (length (messages_turns all) ≡ count))
    pub each : length replies ≡ length messages
    pub stopped : SaysStopped replies → HasSeenFault faults new
    pub latest : count ≢ 0 → to ≡ entries_seen new
    pub known : count ≢ 0 → (opening : StoreView D) × HasHistory opening new
    pub still : count ≡ 0 → new ≡ old
    pub answered : AreAnswered (begun_with nonce) old messages replies end new
