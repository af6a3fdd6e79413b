-- Each turn adds one entry at most, and messages have no more turns than their kinds and names.
use Rattle.std.proofs.Common.{◌≡◌, ◌≤◌, ◌+◌, ℕ, List, [], ◌∷◌, ◌++◌, length, Option, sym, ap, subst, arith, length-append, zero-add}
use Rattle.std.specs.Prelude.{ℤ}
use Rattle.bl_syntax.specs.declared.terms.NodeId.{NodeId}
use Rattle.procap.specs.declared.procap.Procap.{Procap}
use Rattle.pcfs_store.specs.Entries.{StoreEntry}
use Rattle.session_history.specs.declared.request.TurnRequest.{TurnRequest}
use Rattle.session_history.specs.declared.reply.TurnReply.{TurnReply}
use Rattle.session_history.specs.Turn.{StorePass, Turn, was_stopped, answered, full, kept, failed}
use Rattle.session_history.specs.Turn as turns
use Rattle.nine_messages.specs.Requests.{RequestView, tversion, tattach, tflush, twalk, topen, tread, twrite, tclunk, tother, MessageView}
use Rattle.nine_messages.specs.Replies.{ReplyView}
use Rattle.nine_fids.specs.declared.connection.Connection.{Connection}
use Rattle.nine_fids.specs.declared.control.Control.{Control}
use Rattle.nine_fids.specs.declared.fid.FidFile.{FidFile}
use Rattle.nine_fids.specs.declared.step.Step.{Step}
use Rattle.nine_fids.specs.declared.step.Step.TheVariants as steps
use Rattle.nine_fids.specs.Memory.{IsOpenFor}
use Rattle.nine_fids.specs.Steps.{Outcome, decided}
use Rattle.nine_fids.proofs.LawLemmas.{IsOneTurn, turn_is_open}
use Rattle.nine_front.specs.Asking.{IsTurnOf}
use Rattle.nine_front.specs.Placed.{WalksPlaced, all_found, goes_on, no_procap, lacks_memory, MessagePlaced, refused, in_a_turn, walks, without_memory, MessagesPlaced, no_message, one_more}
use Rattle.nine_front.specs.Placed as places
use Rattle.nine_front.specs.Turns.{most_turns, most_turns_of, walk_turns, message_turns, messages_turns}

-- a step that is one turn
turn_is_one : (s : Connection) (m : RequestView) (step : Step) (request : TurnRequest) → IsTurnOf s m step request → IsOneTurn step
turn_is_one s m (steps.Refused error) request turn = turn
turn_is_one s m (steps.Answered answer) request turn = turn
turn_is_one s m (steps.Login who signature) request turn = tt
turn_is_one s m (steps.Read node p offset len) request turn = tt
turn_is_one s m (steps.Write node p offset) request turn = tt
turn_is_one s m (steps.Walk node) request turn = turn

-- is one of a request that reads or writes
open_turns : (s : Connection) (m : RequestView) → IsOpenFor s m → 1 ≤ most_turns m
open_turns s (tversion msize version) is = absurd is
open_turns s (tattach fid afid uname aname) is = absurd is
open_turns s (tflush oldtag) is = absurd is
open_turns s (twalk fid newfid names) is = absurd is
open_turns s (topen fid mode) is = absurd is
open_turns s (tread fid offset count) is = omega arith
open_turns s (twrite fid offset bytes) is = omega arith
open_turns s (tclunk fid) is = absurd is
open_turns s (tother kind body) is = absurd is

one_turn_of : (s : Connection) (asked : Option Control) (m : RequestView) (step : Step) (request : TurnRequest) → decided s asked m ≡ (step, s) → IsTurnOf s m step request → 1 ≤ most_turns m
one_turn_of s asked m step request is turn = open_turns s m (turn_is_open s asked m (subst (λ (o : Outcome). IsOneTurn o.0) (sym is) (turn_is_one s m step request turn)))

walk_turns_most : (m : RequestView) (fid newfid : ℕ) (names : List (List ℕ)) → m ≡ twalk fid newfid names → most_turns m ≡ length names
walk_turns_most m fid newfid names same = ap most_turns same

-- those of more messages
most_turns-append : (messages others : List MessageView) → most_turns_of (messages ++ others) ≡ most_turns_of messages + most_turns_of others
most_turns-append [] others = sym (zero-add (most_turns_of others))
most_turns-append (m ∷ messages) others = let rest = most_turns-append messages others in omega (arith, rest)

module _ (gives : List StoreEntry → ℤ → Type 0) (p : StorePass) where
  turn_few : (before : List StoreEntry) (request : TurnRequest) (reply : TurnReply) (given : List StoreEntry) → Turn gives p before request reply given → length given ≤ 1
  turn_few before request _ _ (was_stopped is) = omega arith
  turn_few before request _ _ (answered clock reply running shown answers) = omega arith
  turn_few before request _ _ (full clock reply entry running shown answers is_full) = omega arith
  turn_few before request _ _ (kept clock reply entry running shown answers room) = omega arith
  turn_few before request _ _ (failed clock reply entry running shown answers room) = omega arith
  turn_few before request _ _ turns.without_memory = omega arith

  module _ (history : List StoreEntry) where
    walk_few : (purse : List Procap) (who : List ℕ) (from : ℕ) (node : NodeId) (names : List (List ℕ)) (found : List FidFile) (end : Option (List ℕ)) (to : ℕ) (given : List StoreEntry) →
        (walk : WalksPlaced gives p history purse who from node names found end to given) → (length given ≤ length (walk_turns walk)) × (length (walk_turns walk) ≤ length names)
    walk_few purse who _ _ _ _ _ _ _ (all_found from node) = (omega arith, omega arith)
    walk_few purse who _ _ _ _ _ _ _ (goes_on from at to node child name names q replied kind found end given more fits turn named rest) =
        let one = turn_few turn.placed.before _ replied given turn.placed.turn in
        let others = walk_few purse who at child names found end to more rest in
        (omega (arith, one, others.0, length-append given more), omega (arith, others.1))
    walk_few purse who _ _ _ _ _ _ _ (places.ends from to node name names q replied kind line given fits turn named is) =
        let one = turn_few turn.placed.before _ replied given turn.placed.turn in
        (omega (arith, one), omega arith)
    walk_few purse who _ _ _ _ _ _ _ (no_procap from node name names none) = (omega arith, omega arith)
    walk_few purse who _ _ _ _ _ _ _ (lacks_memory from node name names q fits) = (omega arith, omega arith)

    message_few : (from : ℕ) (s : Connection) (m : RequestView) (reply : ReplyView) (after : Connection) (to : ℕ) (given : List StoreEntry) →
        (one : MessagePlaced gives p history from s m reply after to given) → (length given ≤ length (message_turns one)) × (length (message_turns one) ≤ most_turns m)
    message_few from s m _ _ _ _ (refused asked error asks is) = (omega arith, omega arith)
    message_few from s m _ _ _ _ (places.answered asked answer after asks is) = (omega arith, omega arith)
    message_few from s m _ _ _ _ (in_a_turn asked step request replied reply to given asks is turn_is turn told) =
        (turn_few turn.before request replied given turn.turn, one_turn_of s asked m step request is turn_is)
    message_few from s m _ _ _ _ (walks fid newfid names node who found end to given same is caller walk) =
        let few = walk_few s.purse who from node names found end to given walk in
        let most = walk_turns_most m fid newfid names same in
        (few.0, omega (arith, few.1, most))
    message_few from s m _ _ _ _ (without_memory may) = (omega arith, omega arith)

    pub messages_few : (start : Connection) (from : ℕ) (messages : List MessageView) (replies : List ReplyView) (end : Connection) (to : ℕ) (given : List StoreEntry) →
        (all : MessagesPlaced gives p history start from messages replies end to given) → (length given ≤ length (messages_turns all)) × (length (messages_turns all) ≤ most_turns_of messages)
    messages_few start from _ _ _ _ _ no_message = (omega arith, omega arith)
    messages_few start from _ _ _ _ _ (one_more messages replies s at given m reply after to more placed here) =
        let before = messages_few start from messages replies s at given placed in
        let now = message_few at s m.request reply after to more here in
        let joined = length-append (messages_turns placed) (message_turns here) in
        let most = most_turns-append messages (m ∷ []) in
        (omega (arith, before.0, now.0, joined, length-append given more), omega (arith, before.1, now.1, joined, most))
