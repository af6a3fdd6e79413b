-- The messages of a connection in a history that others grow: each takes its turns at places that
-- do not go back, and its reply is the answer over what was there (this project's own).
use Rattle.std.specs.Prelude.{◌≡◌, ℕ, ℤ, List, [], ◌∷◌, ◌++◌, length, map, Bool, Option, Some, None}
use Rattle.bl_syntax.specs.declared.terms.NodeId.{NodeId}
use Rattle.bl_syntax.specs.declared.terms.Perm.TheVariants as perms
use Rattle.procap.specs.declared.procap.Procap.{Procap}
use Rattle.line_wire.specs.declared.reply.LineReply.{LineReply}
use Rattle.line_wire.specs.declared.reply.LineReply.TheVariants as lines
use Rattle.line_wire.specs.ReplyText.{reply_text}
use Rattle.pcfs_store.specs.Entries.{StoreEntry}
use Rattle.session_history.specs.declared.request.TurnRequest.{TurnRequest}
use Rattle.session_history.specs.declared.reply.TurnReply.{TurnReply}
use Rattle.session_history.specs.Turn.{StorePass, TurnPlaced}
use Rattle.session_history.specs.Placed.{IsReplyOf}
use Rattle.shared_store.specs.Looking.{node_named, LookPlaced}
use Rattle.nine_messages.specs.Requests.{RequestView, twalk, MessageView}
use Rattle.nine_messages.specs.Replies.{ReplyView, rwalk, rerror}
use Rattle.nine_fids.specs.declared.connection.Connection.{Connection}
use Rattle.nine_fids.specs.declared.control.Control.{Control}
use Rattle.nine_fids.specs.declared.error.NineError.{NineError}
use Rattle.nine_fids.specs.declared.error.NineError.TheVariants as errors
use Rattle.nine_fids.specs.declared.fid.FidFile.{FidFile}
use Rattle.nine_fids.specs.declared.fid.FidFile.TheVariants as files
use Rattle.nine_fids.specs.declared.step.Answer.{Answer}
use Rattle.nine_fids.specs.declared.step.Step.{Step}
use Rattle.nine_fids.specs.declared.step.Step.TheVariants as steps
use Rattle.nine_fids.specs.Errors.{error_text}
use Rattle.nine_fids.specs.Files.{qid_of}
use Rattle.nine_fids.specs.Memory.{MayLackMemory}
use Rattle.nine_fids.specs.Purse.{fitting}
use Rattle.nine_fids.specs.Steps.{answer_view, decided}
use Rattle.nine_fids.specs.Tests.{IsAskedBy}
use Rattle.nine_fids.specs.Walks.{walked}
use Rattle.nine_front.specs.Asking.{bytes_of, IsTurnOf, look_of, IsReplyTo, after_turn}

-- ---- walks

-- The names of a walk of this principal, from a node on and from the first `from` entries on: each
-- is one lookup in a turn, under the first procap of the purse that fits where the walk has come
-- to, and from the place to which the turn before it came. What was found, and the text with which
-- the walk ended early, if it did.
pub data WalksPlaced (gives : List StoreEntry → ℤ → Type 0) (p : StorePass) (history : List StoreEntry) (purse : List Procap) (who : List ℕ) :
    ℕ → NodeId → List (List ℕ) → List FidFile → Option (List ℕ) → ℕ → List StoreEntry → Type 0 where
  all_found : (from : ℕ) (node : NodeId) →
      WalksPlaced gives p history purse who from node [] [] None from []
  -- the turn names a node, and the walk goes on from it
  goes_on : (from at to : ℕ) (node child : NodeId) (name : List ℕ) (names : List (List ℕ))
      (q : Procap) (replied : TurnReply) (kind : Bool) (found : List FidFile)
      (end : Option (List ℕ)) (given more : List StoreEntry) →
      fitting purse who node perms.Execute ≡ Some q →
      LookPlaced gives p history from (look_of who node name q) replied kind at given →
      node_named replied ≡ Some child →
      WalksPlaced gives p history purse who at child names found end to more →
      WalksPlaced gives p history purse who from node (name ∷ names) (files.Node child kind ∷ found) end to (given ++ more)
  -- the turn names none, and its line is the error
  ends : (from to : ℕ) (node : NodeId) (name : List ℕ) (names : List (List ℕ)) (q : Procap)
      (replied : TurnReply) (kind : Bool) (line : LineReply) (given : List StoreEntry) →
      fitting purse who node perms.Execute ≡ Some q →
      LookPlaced gives p history from (look_of who node name q) replied kind to given →
      node_named replied ≡ None → IsReplyOf replied line →
      WalksPlaced gives p history purse who from node (name ∷ names) [] (Some (reply_text line)) to given
  -- no procap fits, and no turn is taken
  no_procap : (from : ℕ) (node : NodeId) (name : List ℕ) (names : List (List ℕ)) →
      fitting purse who node perms.Execute ≡ None →
      WalksPlaced gives p history purse who from node (name ∷ names) [] (Some (error_text errors.NoProcap)) from []
  -- a procap fits, and memory ran out before the turn
  lacks_memory : (from : ℕ) (node : NodeId) (name : List ℕ) (names : List (List ℕ)) (q : Procap) →
      fitting purse who node perms.Execute ≡ Some q →
      WalksPlaced gives p history purse who from node (name ∷ names) [] (Some (reply_text lines.NoMemory)) from []

-- the error of the first name; else the qids of what was found, of a walk that ended early too
abbrev pub walk_reply : List FidFile → Option (List ℕ) → ReplyView
walk_reply [] (Some error) = rerror error
walk_reply [] None = rwalk []
walk_reply (file ∷ found) end = rwalk (map qid_of (file ∷ found))

-- ---- messages

-- The reply to a request, from the first `from` entries of the history on and in this state of the
-- connection; the state after it, how many entries there are after its last turn, and those that it
-- was given.
pub data MessagePlaced (gives : List StoreEntry → ℤ → Type 0) (p : StorePass) (history : List StoreEntry) (from : ℕ) (s : Connection) (m : RequestView) :
    ReplyView → Connection → ℕ → List StoreEntry → Type 0 where
  -- a test holds
  refused : (asked : Option Control) (error : NineError) → IsAskedBy s m asked →
      decided s asked m ≡ (steps.Refused error, s) →
      MessagePlaced gives p history from s m (rerror (error_text error)) s from []
  -- no turn is needed
  answered : (asked : Option Control) (answer : Answer) (after : Connection) →
      IsAskedBy s m asked → decided s asked m ≡ (steps.Answered answer, after) →
      MessagePlaced gives p history from s m (answer_view s.nonce answer) after from []
  -- one turn
  in_a_turn : (asked : Option Control) (step : Step) (request : TurnRequest) (replied : TurnReply)
      (reply : ReplyView) (to : ℕ) (given : List StoreEntry) → IsAskedBy s m asked →
      decided s asked m ≡ (step, s) → IsTurnOf s m step request →
      TurnPlaced gives p history from request replied to given →
      IsReplyTo (length (bytes_of m)) replied reply →
      MessagePlaced gives p history from s m reply (after_turn s step replied) to given
  -- a turn for each name
  walks : (fid newfid : ℕ) (names : List (List ℕ)) (node : NodeId) (who : List ℕ)
      (found : List FidFile) (end : Option (List ℕ)) (to : ℕ) (given : List StoreEntry) →
      m ≡ twalk fid newfid names → decided s None m ≡ (steps.Walk node, s) →
      s.caller ≡ Some who →
      WalksPlaced gives p history s.purse who from node names found end to given →
      MessagePlaced gives p history from s m (walk_reply found end) (walked s newfid (length names) found) to given
  -- memory ran out before any turn, after the tests
  without_memory : MayLackMemory s m →
      MessagePlaced gives p history from s m (rerror (reply_text lines.NoMemory)) s from []

-- The messages of a connection are placed in a history, from the first `from` entries on and from
-- this state: each from where the one before it came to.
pub data MessagesPlaced (gives : List StoreEntry → ℤ → Type 0) (p : StorePass) (history : List StoreEntry) (start : Connection) (from : ℕ) :
    List MessageView → List ReplyView → Connection → ℕ → List StoreEntry → Type 0 where
  no_message : MessagesPlaced gives p history start from [] [] start from []
  one_more : (messages : List MessageView) (replies : List ReplyView) (s : Connection) (at : ℕ)
      (given : List StoreEntry) (m : MessageView) (reply : ReplyView) (after : Connection) (to : ℕ)
      (more : List StoreEntry) →
      MessagesPlaced gives p history start from messages replies s at given →
      MessagePlaced gives p history at s m.request reply after to more →
      MessagesPlaced gives p history start from (messages ++ m ∷ []) (replies ++ reply ∷ []) after to (given ++ more)
