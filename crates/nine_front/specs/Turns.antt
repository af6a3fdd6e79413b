-- The turns that a message took, by how it is placed (this project's own).
use Rattle.std.specs.Prelude.{ℕ, ℤ, ◌+◌, List, [], ◌∷◌, ◌++◌, length, Bool, false, Option}
use Rattle.bl_syntax.specs.declared.terms.NodeId.{NodeId}
use Rattle.procap.specs.declared.procap.Procap.{Procap}
use Rattle.pcfs_store.specs.Entries.{StoreEntry}
use Rattle.session_history.specs.declared.reply.TurnReply.{TurnReply}
use Rattle.session_history.specs.Laws.{IsUndisturbed}
use Rattle.session_history.specs.Turn.{StorePass}
use Rattle.nine_messages.specs.Requests.{RequestView, tversion, tattach, tflush, twalk, topen, tread, twrite, tclunk, tother, MessageView}
use Rattle.nine_messages.specs.Replies.{ReplyView}
use Rattle.nine_fids.specs.declared.connection.Connection.{Connection}
use Rattle.nine_fids.specs.declared.fid.FidFile.{FidFile}
use Rattle.nine_front.specs.Placed.{WalksPlaced, all_found, goes_on, no_procap, lacks_memory, MessagePlaced, refused, answered, in_a_turn, walks, without_memory, MessagesPlaced, no_message, one_more}
use Rattle.nine_front.specs.Placed as places

-- A message takes no more turns: one for a reading, a writing or a login, and one for each
-- name of a walk.
abbrev pub most_turns : RequestView → ℕ
most_turns (tversion msize version) = 0
most_turns (tattach fid afid uname aname) = 0
most_turns (tflush oldtag) = 0
most_turns (twalk fid newfid names) = length names
most_turns (topen fid mode) = 0
most_turns (tread fid offset count) = 1
most_turns (twrite fid offset bytes) = 1
most_turns (tclunk fid) = 0
most_turns (tother kind body) = 0

abbrev pub most_turns_of : List MessageView → ℕ
most_turns_of [] = 0
most_turns_of (m ∷ messages) = most_turns m.request + most_turns_of messages

-- what a turn replied, the kind that a lookup told, to how many entries it came, and which it added
pub record TurnTold : Type 0 where
  pub reply : TurnReply
  pub kind : Bool
  pub to : ℕ
  pub given : List StoreEntry

abbrev pub told_by : TurnReply → Bool → ℕ → List StoreEntry → TurnTold
told_by reply kind to given = record { reply = reply; kind = kind; to = to; given = given }

module _ {gives : List StoreEntry → ℤ → Type 0} {p : StorePass} {history : List StoreEntry} where
  -- the turns of a walk, in their order
  abbrev pub walk_turns : {purse : List Procap} {who : List ℕ} {from : ℕ} {node : NodeId} {names : List (List ℕ)}
      {found : List FidFile} {end : Option (List ℕ)} {to : ℕ} {given : List StoreEntry} →
      WalksPlaced gives p history purse who from node names found end to given → List TurnTold
  walk_turns (all_found from node) = []
  walk_turns (goes_on from at to node child name names q replied kind found end given more fits turn named rest) =
      told_by replied kind at given ∷ walk_turns rest
  walk_turns (places.ends from to node name names q replied kind line given fits turn named is) = told_by replied kind to given ∷ []
  walk_turns (no_procap from node name names none) = []
  walk_turns (lacks_memory from node name names q fits) = []

  -- memory did not run out before one of its turns
  abbrev pub WalkHadMemory : {purse : List Procap} {who : List ℕ} {from : ℕ} {node : NodeId} {names : List (List ℕ)}
      {found : List FidFile} {end : Option (List ℕ)} {to : ℕ} {given : List StoreEntry} →
      WalksPlaced gives p history purse who from node names found end to given → Type 0
  WalkHadMemory (all_found from node) = Unit {0}
  WalkHadMemory (goes_on from at to node child name names q replied kind found end given more fits turn named rest) = WalkHadMemory rest
  WalkHadMemory (places.ends from to node name names q replied kind line given fits turn named is) = Unit {0}
  WalkHadMemory (no_procap from node name names none) = Unit {0}
  WalkHadMemory (lacks_memory from node name names q fits) = ⊥

  -- the turns of a message
  abbrev pub message_turns : {from : ℕ} {s : Connection} {m : RequestView} {reply : ReplyView} {after : Connection} {to : ℕ} {given : List StoreEntry} →
      MessagePlaced gives p history from s m reply after to given → List TurnTold
  message_turns (refused asked error asks is) = []
  message_turns (answered asked answer after asks is) = []
  message_turns (in_a_turn asked step request replied reply to given asks is turns turn told) = told_by replied false to given ∷ []
  message_turns (walks fid newfid names node who found end to given same is caller walk) = walk_turns walk
  message_turns (without_memory may) = []

  abbrev pub HadMemory : {from : ℕ} {s : Connection} {m : RequestView} {reply : ReplyView} {after : Connection} {to : ℕ} {given : List StoreEntry} →
      MessagePlaced gives p history from s m reply after to given → Type 0
  HadMemory (refused asked error asks is) = Unit {0}
  HadMemory (answered asked answer after asks is) = Unit {0}
  HadMemory (in_a_turn asked step request replied reply to given asks is turns turn told) = Unit {0}
  HadMemory (walks fid newfid names node who found end to given same is caller walk) = WalkHadMemory walk
  HadMemory (without_memory may) = ⊥

  -- the turns of messages, one after the other
  abbrev pub messages_turns : {start : Connection} {from : ℕ} {messages : List MessageView} {replies : List ReplyView} {end : Connection}
      {to : ℕ} {given : List StoreEntry} →
      MessagesPlaced gives p history start from messages replies end to given → List TurnTold
  messages_turns no_message = []
  messages_turns (one_more messages replies s at given m reply after to more before here) = messages_turns before ++ message_turns here

-- none of these turns told that memory ran out, or that the store is stopped
abbrev pub AreUndisturbed : List TurnTold → Type 0
AreUndisturbed [] = Unit {0}
AreUndisturbed (turn ∷ turns) = IsUndisturbed turn.reply × AreUndisturbed turns
