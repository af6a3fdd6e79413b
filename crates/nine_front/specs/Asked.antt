-- What the messages of a connection ask for, entry by entry, and by whom: each entry that they are
-- given is what one of them asks for, and is by somebody whom one of them logged in over the nonce
-- of the connection (this project's own).
use Rattle.std.specs.Prelude.{◌≡◌, ℕ, ℤ, List, [], ◌∷◌, ◌++◌, true, Option, Some, None}
use Rattle.std.specs.List.{AllByRecursion}
use mathlib.Core.List.{IsPrefix}
use Rattle.bl_syntax.specs.declared.terms.NodeId.{NodeId}
use Rattle.bl_syntax.specs.declared.terms.Perm.TheVariants as perms
use Rattle.procap.specs.declared.procap.Procap.{Procap}
use Rattle.policy_statement.specs.Messages.{login_message}
use Rattle.policy_statement.specs.Ring.{is_accepted}
use Rattle.journal_records.specs.declared.event.Event.{Event}
use Rattle.journal_records.specs.declared.event.Event.TheVariants.{Acted}
use Rattle.pcfs_store.specs.Entries.{StoreEntry, happened, checkpointed, stopped, state_of_entries}
use Rattle.session_history.specs.declared.request.TurnRequest.{TurnRequest}
use Rattle.session_history.specs.declared.request.TurnRequest.TheVariants.{Login}
use Rattle.session_history.specs.declared.reply.TurnReply.{TurnReply}
use Rattle.session_history.specs.Laws.{asked_entry}
use Rattle.session_history.specs.Turn.{StorePass, AnswersTurn}
use Rattle.nine_messages.specs.Requests.{RequestView, twalk, MessageView}
use Rattle.nine_messages.specs.Replies.{ReplyView}
use Rattle.nine_fids.specs.declared.connection.Connection.{Connection}
use Rattle.nine_fids.specs.declared.control.Control.{Control}
use Rattle.nine_fids.specs.declared.step.Step.{Step}
use Rattle.nine_fids.specs.declared.step.Step.TheVariants as steps
use Rattle.nine_fids.specs.Purse.{fitting}
use Rattle.nine_fids.specs.States.{begun_with}
use Rattle.nine_fids.specs.Steps.{decided}
use Rattle.nine_fids.specs.Tests.{IsAskedBy}
use Rattle.nine_front.specs.Asking.{IsTurnOf, look_of}
use Rattle.nine_front.specs.Placed.{MessagePlaced, MessagesPlaced}

-- ---- what is asked for

-- what a request asks of a store, in this state of its connection: its one turn; or the lookup of
-- one of its names, under the first procap that fits in some directory
pub data Asks (s : Connection) (m : RequestView) : TurnRequest → Type 0 where
  in_one_turn : (asked : Option Control) (step : Step) (request : TurnRequest) →
      IsAskedBy s m asked →
      decided s asked m ≡ (step, s) → IsTurnOf s m step request → Asks s m request
  in_a_walk : (fid newfid : ℕ) (earlier later : List (List ℕ)) (name : List ℕ)
      (node directory : NodeId) (who : List ℕ) (q : Procap) →
      m ≡ twalk fid newfid (earlier ++ name ∷ later) → decided s None m ≡ (steps.Walk node, s) →
      s.caller ≡ Some who → fitting s.purse who directory perms.Execute ≡ Some q →
      Asks s m (look_of who directory name q)

-- One of these messages, and a state of the connection in which those before it are placed in a
-- history from this state on.
pub record OneOfMessages (gives : List StoreEntry → ℤ → Type 0) (p : StorePass) (history : List StoreEntry)
    (start : Connection) (from : ℕ) (messages : List MessageView) : Type 0 where
  pub earlier : List MessageView
  pub message : MessageView
  pub later : List MessageView
  pub among : messages ≡ earlier ++ message ∷ later
  pub told : List ReplyView
  pub state : Connection
  pub at : ℕ
  pub added : List StoreEntry
  pub so_far : MessagesPlaced gives p history start from earlier told state at added

-- One of these messages asks for the entry: in a state in which the messages before it are placed,
-- what it asks in a turn of the pass, which finds the entries that the history has before this one,
-- has an answer that adds the entry, or of a mark what was being added when a disk failed, at a
-- moment that the clock gives over the entries that stand before it.
pub record IsAskedByMessage (gives : List StoreEntry → ℤ → Type 0) (p : StorePass) (history : List StoreEntry)
    (start : Connection) (from : ℕ) (messages : List MessageView) (entry : StoreEntry) : Type 0 where
  pub one : OneOfMessages gives p history start from messages
  pub request : TurnRequest
  pub asks : Asks one.state one.message.request request
  pub found : List StoreEntry
  pub begins : IsPrefix (found ++ entry ∷ []) history
  pub moment : ℤ
  pub shown : gives found moment
  pub answer : TurnReply
  pub answers : AnswersTurn p.root (state_of_entries p.root found) p.number moment request answer (Some (asked_entry entry))

-- so of each of these entries
abbrev pub AreAskedByMessages : (List StoreEntry → ℤ → Type 0) → StorePass → List StoreEntry →
    Connection → ℕ →
    List MessageView → List StoreEntry → Type 0
AreAskedByMessages gives p history start from messages given =
    AllByRecursion (IsAskedByMessage gives p history start from messages) given

abbrev pub EntriesAreAskedFor : (List StoreEntry → ℤ → Type 0) → Type 0
EntriesAreAskedFor gives = (p : StorePass) (history : List StoreEntry) (start : Connection) (from : ℕ)
    (messages : List MessageView) (replies : List ReplyView) (end : Connection) (to : ℕ)
    (given : List StoreEntry) →
    MessagesPlaced gives p history start from messages replies end to given →
    AreAskedByMessages gives p history start from messages given

-- ---- by whom

-- One of these messages logged this name in: in a state in which the messages before it are placed
-- it asks for that over the connection's nonce, by a signature that it brings and the ring accepts;
-- and it is placed after them, and then that name is logged in.
pub record HasLoggedIn (gives : List StoreEntry → ℤ → Type 0) (p : StorePass) (history : List StoreEntry)
    (nonce : List ℕ) (from : ℕ) (messages : List MessageView) (who : List ℕ) : Type 0 where
  pub one : OneOfMessages gives p history (begun_with nonce) from messages
  pub signature : List ℕ
  pub asks : Asks one.state one.message.request (Login who nonce signature)
  pub accepted : is_accepted p.root.ring who (login_message who nonce) signature ≡ true
  pub reply : ReplyView
  pub after : Connection
  pub to : ℕ
  pub given : List StoreEntry
  pub placed : MessagePlaced gives p history one.at one.state one.message.request reply after to given
  pub logged_in : after.caller ≡ Some who

module _ (gives : List StoreEntry → ℤ → Type 0) (p : StorePass) (history : List StoreEntry) (nonce : List ℕ)
    (from : ℕ) (messages : List MessageView) where
  -- an operation is by somebody whom one of these messages logged in; nothing else is kept
  abbrev pub IsEventByLogin : Event → Type 0
  IsEventByLogin (Acted pass caller op procaps moment) = HasLoggedIn gives p history nonce from messages caller
  IsEventByLogin _ = ⊥

  -- and so is what was being kept when a disk failed
  abbrev pub IsMetByLogin : Option Event → Type 0
  IsMetByLogin None = ⊥
  IsMetByLogin (Some event) = IsEventByLogin event

  abbrev pub IsByLogin : StoreEntry → Type 0
  IsByLogin (happened event) = IsEventByLogin event
  IsByLogin (checkpointed pass) = ⊥
  IsByLogin (stopped pass met) = IsMetByLogin met

-- Each entry that a connection is given is an operation, or the mark of a disk that failed
-- under one, by somebody whom one of its messages logged in over its nonce, by a signature
-- that the ring accepts.
abbrev pub CallersAreAccepted : (List StoreEntry → ℤ → Type 0) → Type 0
CallersAreAccepted gives = (p : StorePass) (history : List StoreEntry) (nonce : List ℕ) (from : ℕ)
    (messages : List MessageView) (replies : List ReplyView) (end : Connection) (to : ℕ)
    (given : List StoreEntry) →
    MessagesPlaced gives p history (begun_with nonce) from messages replies end to given →
    AllByRecursion (IsByLogin gives p history nonce from messages) given

-- Somebody is logged in only by such a message.
abbrev pub LoginsAreAccepted : (List StoreEntry → ℤ → Type 0) → Type 0
LoginsAreAccepted gives = (p : StorePass) (history : List StoreEntry) (nonce : List ℕ) (from : ℕ)
    (messages : List MessageView) (replies : List ReplyView) (end : Connection) (to : ℕ)
    (given : List StoreEntry) (who : List ℕ) →
    MessagesPlaced gives p history (begun_with nonce) from messages replies end to given →
    end.caller ≡ Some who → HasLoggedIn gives p history nonce from messages who
