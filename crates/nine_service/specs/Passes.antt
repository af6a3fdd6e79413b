-- Which entries of a history are those of one connection that speaks 9P2000 (this project's own).
use Rattle.std.specs.Prelude.{◌≡◌, ℕ, ℤ, List, [], Bool, true, false, Option, IfSome}
use Rattle.std.specs.List.{AllByRecursion}
use Rattle.nine_messages.specs.declared.framing.TheConstants.{MOST_SIZE}
use mathlib.Core.List.{IsPrefix}
use Rattle.tree_lock.specs.Seen.{PassView}
use Rattle.pcfs_store.specs.Entries.{StoreEntry}
use Rattle.pcfs_store.specs.StoreView.{StoreView}
use Rattle.session_history.specs.Passes.{AllOfPass}
use Rattle.session_history.specs.Turn.{StorePass}
use Rattle.shared_store.specs.declared.entry.LockEntry.{LockEntry}
use Rattle.shared_store.specs.LockHistory.{numbered, lock_history}
use Rattle.shared_store.specs.Turning.{pass_at}
use Rattle.session_service.specs.Sessions.{IsInputOf, IsNonceOf, inputs_of}
use Rattle.session_service.specs.Conversation.{ConnectionTells}
use Rattle.nine_messages.specs.Cutting.{Cuts}
use Rattle.nine_messages.specs.Requests.{MessageView}
use Rattle.nine_messages.specs.Replies.{ReplyView}
use Rattle.nine_fids.specs.declared.connection.Connection.{Connection}
use Rattle.nine_fids.specs.States.{begun_with}
use Rattle.nine_front.specs.Asked.{IsByLogin, AreAskedByMessages}
use Rattle.nine_front.specs.Placed.{MessagesPlaced}
use Rattle.nine_service.specs.Conversation.{IsNineConversation}

-- what connections take from the ports, and give them: which moments the clock gives after which
-- entries; which messages the connection of a number may send, under which nonce; and that it was
-- told these replies to its messages
pub record NineSources : Type 1 where
  pub gives : List StoreEntry → ℤ → Type 0
  pub may_send : ℕ → List ℕ → List MessageView → Type 0
  pub is_told : ℕ → List MessageView → List ReplyView → Type 0

-- bytes begin with these messages, of which the first may have 65,536 bytes
pub record HasFirst (bytes : List ℕ) (messages : List MessageView) : Type 0 where
  pub agreed : ℕ
  pub rest : List ℕ
  pub cut : Cuts MOST_SIZE bytes messages agreed rest

-- if an input tells which bytes are still to come, they begin with these messages
abbrev pub AreFirstMessages : Option (List ℕ) → List MessageView → Type 0
AreFirstMessages left messages = IfSome left (λ bytes. HasFirst bytes messages)

-- the first messages of what an input of this type tells, at some moment of it, of which the
-- listener may tell more: it is that of the connection of the number when it was accepted; and the
-- nonce is that of the number
pub record MaySend {I : Type 0} (left : I → Option (List ℕ))
    (inputs : Option (List (Option (List ℕ)))) (nonces : Option (List ℕ)) (number : ℕ)
    (nonce : List ℕ) (messages : List MessageView) : Type 0 where
  pub nonce_is : IsNonceOf nonces number nonce
  pub input : I
  pub accepted : IsInputOf inputs number (left input)
  pub first : AreFirstMessages (left input) messages

-- The clock gives these moments after these entries. Messages are sent by inputs of one type, and
-- replies written to outputs of one type, which tell this of themselves, as the lines and the
-- replies of a session are.
abbrev pub nine_sources_of : {I O : Type 0} → (List StoreEntry → ℤ → Type 0) →
    ConnectionTells I O → Option (List (I × O)) → Option (List ℕ) → NineSources
nine_sources_of gives tells queue nonces = record {
  gives = gives;
  may_send = MaySend tells.left (inputs_of tells.left queue) nonces;
  is_told = IsNineConversation tells queue;
}

-- The pass attended a connection in this history, of which these are the entries: the connection of
-- its number sent these messages, under this nonce, and at first nobody was logged in; each message
-- has its place in the history with its reply, after the first `from` entries, and places do not go
-- back; and the entries are exactly those that were added in the turns of these messages, in this
-- order. So each is what one of the messages asks for, at a moment that the clock gives over the
-- entries that stand before it, and an operation, or the mark of a disk that failed under one, of
-- somebody whom one of the messages logged in. These messages and replies are those of the
-- conversation on that connection, which may have ended before the last reply was told. `from` is
-- some place.
pub record AreOfNine (sources : NineSources) (p : StorePass) (history own : List StoreEntry) : Type 0 where
  pub nonce : List ℕ
  pub messages : List MessageView
  pub replies : List ReplyView
  pub from : ℕ
  pub end : Connection
  pub to : ℕ
  pub sent : sources.may_send p.number nonce messages
  pub told : sources.is_told p.number messages replies
  pub placed : MessagesPlaced sources.gives p history (begun_with nonce) from messages replies end to own
  pub of_pass : AllOfPass p.number own
  pub asked : AreAskedByMessages sources.gives p history (begun_with nonce) from messages own
  pub callers : AllByRecursion (IsByLogin sources.gives p history nonce from messages) own

module _ {D : Type 0} where
  -- These are the own entries of the pass with this number at a lock: in each history that begins
  -- with what is seen, of the store as it was opened and the entries since, they are those of such a
  -- connection.
  pub record AreOfSeenNine (sources : NineSources) (seen : List (ℕ × LockEntry D)) (number : ℕ) (own : List (ℕ × LockEntry D)) : Type 0 where
    pub given : List StoreEntry
    pub own_is : own ≡ numbered given
    pub nine : (opening : StoreView D) (entries : List StoreEntry) →
        IsPrefix seen (lock_history opening entries) →
        AreOfNine sources (pass_at opening number) entries given

  -- the pass of a connection: until the connection is attended it has no entries, and then those of
  -- its messages
  abbrev pub IsNinePass : NineSources → Bool → PassView (LockEntry D) → Type 0
  IsNinePass sources attended pass = (attended ≡ false → pass.own ≡ []) ×
      (attended ≡ true → AreOfSeenNine sources pass.seen pass.number pass.own)
