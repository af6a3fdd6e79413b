-- Laws of messages in a history: what is placed stays placed, what is given is the pass's own,
-- places do not go back, a connection is placed in what its pass has seen, and each request has an
-- end, and asks one thing.
use Rattle.std.specs.Prelude.{◌≡◌, ◌≢◌, ◌+◌, ◌≤◌, ℕ, ℤ, List, ◌++◌, length, take, true, false, Option}
use Rattle.nine_messages.specs.declared.framing.TheConstants.{MOST_SIZE}
use Rattle.line_wire.specs.declared.reply.LineReply.TheVariants as lines
use Rattle.line_wire.specs.ReplyText.{reply_text}
use mathlib.Core.List.{IsPrefix}
use Rattle.tree_lock.specs.Seen.{PassView}
use Rattle.tree_lock.specs.Closing.{IsMadeAfter}
use Rattle.pcfs_store.specs.Entries.{StoreEntry}
use Rattle.pcfs_store.specs.StoreView.{StoreView}
use Rattle.shared_store.specs.declared.entry.LockEntry.{LockEntry}
use Rattle.shared_store.specs.LockHistory.{numbered, lock_history}
use Rattle.shared_store.specs.Turning.{pass_at}
use Rattle.shared_store.specs.Asking.{entries_seen, HasHistory, InEachHistory, HasSeenFault}
use Rattle.session_lines.specs.Turns.{CountsTurns}
use Rattle.session_history.specs.Passes.{AllOfPass, has_stop}
use Rattle.session_history.specs.declared.request.TurnRequest.{TurnRequest}
use Rattle.session_history.specs.declared.reply.TurnReply.{TurnReply}
use Rattle.session_history.specs.Tasks.{IsNamed}
use Rattle.session_history.specs.Turn.{StorePass}
use Rattle.nine_messages.specs.Requests.{RequestView, MessageView}
use Rattle.nine_messages.specs.Replies.{ReplyView, rerror}
use Rattle.nine_fids.specs.declared.connection.Connection.{Connection}
use Rattle.nine_fids.specs.declared.control.Control.{Control}
use Rattle.nine_fids.specs.declared.step.Step.{Step}
use Rattle.nine_fids.specs.declared.error.NineError.TheVariants.{NotLoggedIn}
use Rattle.nine_fids.specs.Errors.{error_text}
use Rattle.nine_fids.specs.States.{begun_with, IsWithin}
use Rattle.nine_fids.specs.Tests.{IsAskedBy}
use Rattle.nine_front.specs.Asking.{bytes_of, IsTurnOf, IsReplyTo}
use Rattle.nine_front.specs.Placed.{MessagePlaced, MessagesPlaced}
use Rattle.nine_front.specs.Said.{IsStopped, SaysStopped, Speaks}
use Rattle.nine_front.specs.Turns.{most_turns_of, message_turns, messages_turns, HadMemory, AreUndisturbed}

-- messages stay in their places when the history grows at its end
abbrev pub MessagesStayPlaced : (List StoreEntry → ℤ → Type 0) → Type 0
MessagesStayPlaced gives = (p : StorePass) (history more : List StoreEntry) (start : Connection)
    (from : ℕ) (messages : List MessageView) (replies : List ReplyView) (end : Connection) (to : ℕ)
    (given : List StoreEntry) →
    MessagesPlaced gives p history start from messages replies end to given →
    MessagesPlaced gives p (history ++ more) start from messages replies end to given

-- the entries that a connection is given were all added in turns of its own pass
abbrev pub GivenAreOfPass : (List StoreEntry → ℤ → Type 0) → Type 0
GivenAreOfPass gives = (p : StorePass) (history : List StoreEntry) (start : Connection) (from : ℕ)
    (messages : List MessageView) (replies : List ReplyView) (end : Connection) (to : ℕ)
    (given : List StoreEntry) →
    MessagesPlaced gives p history start from messages replies end to given →
    AllOfPass p.number given

-- places do not go back, and stay within the history
abbrev pub PlacesGoOn : (List StoreEntry → ℤ → Type 0) → Type 0
PlacesGoOn gives = (p : StorePass) (history : List StoreEntry) (start : Connection) (from : ℕ)
    (messages : List MessageView) (replies : List ReplyView) (end : Connection) (to : ℕ)
    (given : List StoreEntry) →
    from ≤ length history →
    MessagesPlaced gives p history start from messages replies end to given →
    (from ≤ to) × (to ≤ length history)

-- each message has a reply
abbrev pub MessagesAreAnswered : (List StoreEntry → ℤ → Type 0) → Type 0
MessagesAreAnswered gives = (p : StorePass) (history : List StoreEntry) (start : Connection)
    (from : ℕ) (messages : List MessageView) (replies : List ReplyView) (end : Connection) (to : ℕ)
    (given : List StoreEntry) →
    MessagesPlaced gives p history start from messages replies end to given →
    length replies ≡ length messages

-- a connection stays within its limits
abbrev pub LimitsAreKept : (List StoreEntry → ℤ → Type 0) → Type 0
LimitsAreKept gives = (p : StorePass) (history : List StoreEntry) (s : Connection) (from : ℕ)
    (m : RequestView) (reply : ReplyView) (after : Connection) (to : ℕ) (given : List StoreEntry) →
    IsWithin s → MessagePlaced gives p history from s m reply after to given → IsWithin after

-- it is told that the store is stopped only if a mark is among the entries up to the place
abbrev pub StoppedAfterStop : (List StoreEntry → ℤ → Type 0) → Type 0
StoppedAfterStop gives = (p : StorePass) (history : List StoreEntry) (s : Connection) (from : ℕ)
    (m : RequestView) (reply : ReplyView) (after : Connection) (to : ℕ) (given : List StoreEntry) →
    IsStopped reply → MessagePlaced gives p history from s m reply after to given →
    has_stop (take to history) ≡ true

-- a turn adds one entry at most, and messages have no more turns than their kinds and names
abbrev pub EntriesAreFew : (List StoreEntry → ℤ → Type 0) → Type 0
EntriesAreFew gives = (p : StorePass) (history : List StoreEntry) (start : Connection) (from : ℕ)
    (messages : List MessageView) (replies : List ReplyView) (end : Connection) (to : ℕ)
    (given : List StoreEntry) →
    (all : MessagesPlaced gives p history start from messages replies end to given) →
    (length given ≤ length (messages_turns all)) ×
    (length (messages_turns all) ≤ most_turns_of messages)

-- ---- connections

-- A connection in what its pass has seen at the end: this is the history of a store that was opened
-- so, and the replies are placed in it, after all that the pass had seen at first and, if turns
-- were taken, up to its end; the pass's own entries grew by those that the replies were given, and
-- it took as many turns as they have.
pub record IsPlacedConnection {D : Type 0} (faults : D → ℕ) (gives : List StoreEntry → ℤ → Type 0) (nonce : List ℕ)
    (opening : StoreView D) (old new : PassView (LockEntry D)) (messages : List MessageView)
    (replies : List ReplyView) : Type 0 where
  pub entries : List StoreEntry
  pub seen_is : new.seen ≡ lock_history opening entries
  pub end : Connection
  pub to : ℕ
  pub given : List StoreEntry
  pub placed : MessagesPlaced gives (pass_at opening old.number) entries (begun_with nonce) (entries_seen old) messages replies end to given
  pub latest : length (messages_turns placed) ≢ 0 → to ≡ length entries
  pub within : to ≤ length entries
  pub turns : CountsTurns (length (messages_turns placed)) (length (messages_turns placed)) old.turns new.turns
  pub own : new.own ≡ old.own ++ numbered given
  pub stopped : SaysStopped replies → HasSeenFault faults new

-- so is each connection over a store of which its pass had seen the history
abbrev pub ConnectionsArePlaced : (D : Type 0) → (D → ℕ) → (List StoreEntry → ℤ → Type 0) → Type 0
ConnectionsArePlaced D faults gives = (nonce : List ℕ) (opening : StoreView D)
    (old new : PassView (LockEntry D)) (messages : List MessageView) (replies : List ReplyView) →
    HasHistory opening old → Speaks faults gives nonce old new messages replies →
    IsPlacedConnection faults gives nonce opening old new messages replies

-- and each that took a turn, whatever its pass had seen: so what it has seen is a history
abbrev pub TurnsArePlaced : (D : Type 0) → (D → ℕ) → (List StoreEntry → ℤ → Type 0) → Type 0
TurnsArePlaced D faults gives = (nonce : List ℕ) (old new : PassView (LockEntry D))
    (messages : List MessageView) (replies : List ReplyView) →
    (s : Speaks faults gives nonce old new messages replies) → s.count ≢ 0 →
    (opening : StoreView D) × IsPlacedConnection faults gives nonce opening old new messages replies

-- A connection of a pass that was made after another had left. In each history that begins with
-- what the connection's pass has seen at the end, the entries come first that the other had seen
-- when something was told under it, and the replies are placed after them.
abbrev pub LaterConnectionsArePlacedAfter : (D : Type 0) → (D → ℕ) →
    (List StoreEntry → ℤ → Type 0) → Type 0
LaterConnectionsArePlacedAfter D faults gives = (nonce : List ℕ) (opening : StoreView D)
    (told old new : PassView (LockEntry D)) (messages : List MessageView) (replies : List ReplyView) →
    (h : HasHistory opening told) → IsMadeAfter told old →
    (s : Speaks faults gives nonce old new messages replies) →
    (length h.entries ≤ entries_seen old) ×
    InEachHistory new (λ root entries. (root ≡ opening) × IsPrefix h.entries entries ×
    MessagesPlaced gives (pass_at opening old.number) entries (begun_with nonce) (entries_seen old) messages replies s.end s.to s.given)

-- ---- texts

-- somebody who is not logged in is told what a session would be told
abbrev pub StrangersAreToldAlike : Type 0
StrangersAreToldAlike = error_text NotLoggedIn ≡ reply_text lines.NotLoggedIn

-- ---- one end, and some end

-- a request asks one thing of the control file, or nothing: so what it comes to is one
abbrev pub RequestsAskOneThing : Type 0
RequestsAskOneThing = (s : Connection) (m : RequestView) (asked other : Option Control) →
    IsAskedBy s m asked → IsAskedBy s m other → asked ≡ other

-- a step that is done in one turn is one turn
abbrev pub StepsAreOneTurn : Type 0
StepsAreOneTurn = (s : Connection) (m : RequestView) (step : Step) (request other : TurnRequest) →
    IsTurnOf s m step request → IsTurnOf s m step other → request ≡ other

-- and what the turn replies is told in one way
abbrev pub RepliesAreToldInOneWay : Type 0
RepliesAreToldInOneWay = (count : ℕ) (replied : TurnReply) (reply other : ReplyView) →
    IsReplyTo count replied reply → IsReplyTo count replied other → reply ≡ other

-- At given turns a message has one end, if memory does not run out before one of them: what its
-- turns reply, come to and add decides its reply, the state after it, and what it is given.
abbrev pub MessagesHaveOneEnd : (List StoreEntry → ℤ → Type 0) → Type 0
MessagesHaveOneEnd gives = (p : StorePass) (history : List StoreEntry) (from : ℕ) (s : Connection)
    (m : RequestView) (reply other : ReplyView) (after next : Connection) (to last : ℕ)
    (given more : List StoreEntry)
    (one : MessagePlaced gives p history from s m reply after to given)
    (two : MessagePlaced gives p history from s m other next last more) →
    HadMemory one → HadMemory two → message_turns one ≡ message_turns two →
    (reply ≡ other) × (after ≡ next) × (to ≡ last) × (given ≡ more)

-- a reply that is neither that memory ran out nor that the store is stopped
abbrev pub IsCalm : ReplyView → Type 0
IsCalm reply = (reply ≢ rerror (reply_text lines.NoMemory)) ×
    (reply ≢ rerror (reply_text lines.Stopped))

-- a reply to the request and entries which place it after those before: memory did not run out
-- before one of its turns, and none was disturbed, also of a walk that replies what it had found
pub record HasMessageEnd (gives : List StoreEntry → ℤ → Type 0) (p : StorePass) (before : List StoreEntry) (s : Connection) (m : RequestView) : Type 0 where
  pub reply : ReplyView
  pub after : Connection
  pub given : List StoreEntry
  pub placed : MessagePlaced gives p (before ++ given) (length before) s m reply after (length before + length given) given
  pub calm : IsCalm reply
  pub had_memory : HadMemory placed
  pub undisturbed : AreUndisturbed (message_turns placed)

-- At a store that is not stopped each request has an end that is not disturbed, if the clock gives
-- some moment after whatever entries, whoever is logged in has a principal's name, and no more
-- bytes are written than fit a message.
abbrev pub MessagesHaveAnEnd : (List StoreEntry → ℤ → Type 0) → Type 0
MessagesHaveAnEnd gives = (p : StorePass) (s : Connection) (m : RequestView) (asked : Option Control)
    (before : List StoreEntry) → ((found : List StoreEntry) → (clock : ℤ) × gives found clock) →
    IsAskedBy s m asked → IsNamed s.caller → length (bytes_of m) ≤ MOST_SIZE →
    has_stop before ≡ false →
    HasMessageEnd gives p before s m
