-- Which entries of a history are those of one session (this project's own).
use Rattle.std.specs.Prelude.{◌≡◌, ℕ, ◌-◌, ℤ, List, [], Bool, true, false, length, map, slice_get, Option, Some, IfSome}
use Rattle.std.specs.Option.{option_map}
use Rattle.std.specs.List.{AllByRecursion}
use mathlib.Core.List.{IsPrefix}
use Rattle.line_text.specs.Lines.{lines_of}
use Rattle.line_wire.specs.declared.reply.LineReply.{LineReply}
use Rattle.pcfs_ports.specs.Telling.{IsNonceAt}
use Rattle.tree_lock.specs.Seen.{PassView}
use Rattle.pcfs_store.specs.Entries.{StoreEntry}
use Rattle.pcfs_store.specs.StoreView.{StoreView}
use Rattle.session_history.specs.Turn.{StorePass}
use Rattle.session_history.specs.SessionState.{SessionState, guest_with}
use Rattle.session_history.specs.Placed.{LinesPlaced}
use Rattle.session_history.specs.Laws.{IsByAccepted, AreAskedFor}
use Rattle.shared_store.specs.declared.entry.LockEntry.{LockEntry}
use Rattle.shared_store.specs.LockHistory.{numbered, lock_history}
use Rattle.shared_store.specs.Turning.{pass_at}
use Rattle.session_service.specs.Conversation.{ConnectionTells, IsConversation}

-- what sessions take from the ports, and give them: which moments the clock gives over which
-- entries; which lines the connection of a number may say, under which nonce; and that it was told
-- these replies to its lines
pub record SessionSources : Type 1 where
  pub gives : List StoreEntry → ℤ → Type 0
  pub may_say : ℕ → List ℕ → List (List ℕ) → Type 0
  pub is_told : ℕ → List ℕ → List (List ℕ) → List LineReply → Type 0

-- if an input tells which bytes are still to come, these are the first of their lines
abbrev pub AreFirstLines : Option (List ℕ) → List (List ℕ) → Type 0
AreFirstLines left lines = IfSome left (λ bytes. IsPrefix lines (lines_of bytes))

-- if it is told what the inputs of the connections tell when they are accepted, that of the
-- connection of this number, from 1, tells this
abbrev pub IsInputOf : Option (List (Option (List ℕ))) → ℕ → Option (List ℕ) → Type 0
IsInputOf told number left = IfSome told (λ inputs. slice_get inputs (number - 1) ≡ Some left)

-- A nonce has sixteen bytes. If it is told of which bytes nonces are made, it is that of the
-- connection of this number, from 1.
pub record IsNonceOf (told : Option (List ℕ)) (number : ℕ) (nonce : List ℕ) : Type 0 where
  pub sixteen : length nonce ≡ 16
  pub at : IsNonceAt told (number - 1) nonce

-- what the inputs of connections tell, if these are told; `left` is what an input tells
abbrev pub inputs_of : {I O : Type 0} → (I → Option (List ℕ)) → Option (List (I × O)) →
    Option (List (Option (List ℕ)))
inputs_of left queue = option_map (λ connections. map (λ c. left c.0) connections) queue

-- the first lines of what an input of this type tells, at some moment of it, of which the listener
-- may tell more: it is that of the connection of the number when it was accepted; and the nonce is
-- that of the number
pub record MaySay {I : Type 0} (left : I → Option (List ℕ))
    (inputs : Option (List (Option (List ℕ)))) (nonces : Option (List ℕ)) (number : ℕ)
    (nonce : List ℕ) (lines : List (List ℕ)) : Type 0 where
  pub nonce_is : IsNonceOf nonces number nonce
  pub input : I
  pub accepted : IsInputOf inputs number (left input)
  pub first : AreFirstLines (left input) lines

-- The clock gives these moments over these entries. Lines are said by inputs of one type, and
-- replies are written to outputs of one type, which tell this of themselves: the lines of the
-- connection of a number are the first of its input as it was accepted, under the nonce of that
-- number, and the replies to them are written to its output. If the listener does not tell its
-- connections, they are those of any input and any output, at any moment of them; and if it is not
-- told of which bytes nonces are made, the nonce is any.
abbrev pub sources_of : {I O : Type 0} → (List StoreEntry → ℤ → Type 0) → ConnectionTells I O →
    Option (List (I × O)) → Option (List ℕ) → SessionSources
sources_of gives tells queue nonces = record {
  gives = gives;
  may_say = MaySay tells.left (inputs_of tells.left queue) nonces;
  is_told = IsConversation tells queue;
}

-- The pass had a session in this history, of which these are the entries: the connection of its
-- number said these lines, under this nonce, and at first nobody was logged in; each line has its
-- place in the history with its reply, after the first `from` entries, and
-- places do not go back; and the entries are exactly those that were added in the turns of these
-- lines, in this order. So each is what one of the lines asks for, at a moment that the clock
-- gives over the entries that stand before it, also, of the mark of a disk that failed, the
-- event that was being kept; and one of the lines logged in whoever it is by. These lines and
-- replies are those of the conversation on that connection, which may have ended before the last
-- reply was told. `from` is some place.
pub record AreOfSession (sources : SessionSources) (p : StorePass) (history own : List StoreEntry) : Type 0 where
  pub nonce : List ℕ
  pub lines : List (List ℕ)
  pub answers : List LineReply
  pub from : ℕ
  pub end : SessionState
  pub to : ℕ
  pub said : sources.may_say p.number nonce lines
  pub told : sources.is_told p.number nonce lines answers
  pub placed : LinesPlaced sources.gives p history (guest_with nonce) from lines answers end to own
  pub asked : AreAskedFor sources.gives p history (guest_with nonce) from lines own
  pub callers : AllByRecursion (IsByAccepted p.root.ring nonce lines) own

module _ {D : Type 0} where
  -- These are the own entries of the pass with this number at a lock: in each history that begins
  -- with what is seen, of the store as it was opened and the entries since, they are those of a
  -- session.
  pub record AreOfSeenSession (sources : SessionSources) (seen : List (ℕ × LockEntry D)) (number : ℕ) (own : List (ℕ × LockEntry D)) : Type 0 where
    pub given : List StoreEntry
    pub own_is : own ≡ numbered given
    pub session : (opening : StoreView D) (entries : List StoreEntry) →
        IsPrefix seen (lock_history opening entries) →
        AreOfSession sources (pass_at opening number) entries given

  -- the pass of a connection: until the connection is attended it has no entries, and then those of
  -- a session
  abbrev pub IsConnectionPass : SessionSources → Bool → PassView (LockEntry D) → Type 0
  IsConnectionPass sources attended pass = (attended ≡ false → pass.own ≡ []) ×
      (attended ≡ true → AreOfSeenSession sources pass.seen pass.number pass.own)
