-- What is placed stays placed where the history grows at its end, places do not go back, and what is given is the pass's own.
use Rattle.std.proofs.Common.{◌≡◌, ◌≤◌, ℕ, List, [], ◌∷◌, ◌++◌, length, Bool, Option, refl, ap, ◌∙◌, arith, append_assoc, length-append}
use Rattle.std.specs.Prelude.{ℤ}
use Rattle.bl_syntax.specs.declared.terms.NodeId.{NodeId}
use Rattle.procap.specs.declared.procap.Procap.{Procap}
use Rattle.pcfs_store.specs.Entries.{StoreEntry}
use Rattle.session_history.specs.Passes.{AllOfPass}
use Rattle.session_history.specs.declared.request.TurnRequest.{TurnRequest}
use Rattle.session_history.specs.declared.reply.TurnReply.{TurnReply}
use Rattle.session_history.specs.Turn.{StorePass}
use Rattle.session_history.proofs.GivenLemmas.{turn_given}
use Rattle.session_history.proofs.GrowthLemmas.{turn_longer, turn_places}
use Rattle.shared_store.specs.Looking.{LookPlaced}
use Rattle.nine_messages.specs.Requests.{RequestView, MessageView}
use Rattle.nine_messages.specs.Replies.{ReplyView}
use Rattle.nine_fids.specs.declared.connection.Connection.{Connection}
use Rattle.nine_fids.specs.declared.fid.FidFile.{FidFile}
use Rattle.nine_front.specs.Placed.{WalksPlaced, all_found, goes_on, no_procap, MessagePlaced, refused, answered, in_a_turn, walks, MessagesPlaced, no_message, one_more}
use Rattle.nine_front.specs.Placed as places

module _ (gives : List StoreEntry → ℤ → Type 0) (p : StorePass) where
  -- ---- growth

  look_longer : (history more : List StoreEntry) (from : ℕ) (request : TurnRequest) (reply : TurnReply) (kind : Bool) (to : ℕ) (given : List StoreEntry) → LookPlaced gives p history from request reply kind to given → LookPlaced gives p (history ++ more) from request reply kind to given
  look_longer history more from request reply kind to given l = record {
    placed = record {
      before = l.placed.before;
      after = l.placed.after ++ more;
      parts = ap (λ (h : List StoreEntry). h ++ more) l.placed.parts ∙ append_assoc l.placed.before (given ++ l.placed.after) more ∙ ap (λ (h : List StoreEntry). l.placed.before ++ h) (append_assoc given l.placed.after more);
      not_earlier = l.placed.not_earlier;
      place = l.placed.place;
      turn = l.placed.turn;
    };
    told = l.told;
  }

  walk_longer : (history more : List StoreEntry) (purse : List Procap) (who : List ℕ) (from : ℕ) (node : NodeId) (names : List (List ℕ)) (found : List FidFile) (end : Option (List ℕ)) (to : ℕ) (given : List StoreEntry) →
      WalksPlaced gives p history purse who from node names found end to given → WalksPlaced gives p (history ++ more) purse who from node names found end to given
  walk_longer history more purse who _ _ _ _ _ _ _ (all_found from node) = all_found from node
  walk_longer history more purse who _ _ _ _ _ _ _ (goes_on from at to node child name names q replied kind found end given others fits turn named rest) =
      goes_on from at to node child name names q replied kind found end given others fits (look_longer history more from _ replied kind at given turn) named (walk_longer history more purse who at child names found end to others rest)
  walk_longer history more purse who _ _ _ _ _ _ _ (places.ends from to node name names q replied kind line given fits turn named is) =
      places.ends from to node name names q replied kind line given fits (look_longer history more from _ replied kind to given turn) named is
  walk_longer history more purse who _ _ _ _ _ _ _ (no_procap from node name names none) = no_procap from node name names none
  walk_longer history more purse who _ _ _ _ _ _ _ (places.lacks_memory from node name names q fits) = places.lacks_memory from node name names q fits

  message_longer : (history more : List StoreEntry) (from : ℕ) (s : Connection) (m : RequestView) (reply : ReplyView) (after : Connection) (to : ℕ) (given : List StoreEntry) → MessagePlaced gives p history from s m reply after to given → MessagePlaced gives p (history ++ more) from s m reply after to given
  message_longer history more from s m _ _ _ _ (refused asked error asks is) = refused asked error asks is
  message_longer history more from s m _ _ _ _ (answered asked answer after asks is) = answered asked answer after asks is
  message_longer history more from s m _ _ _ _ (in_a_turn asked step request replied reply to given asks is turns turn told) =
      in_a_turn asked step request replied reply to given asks is turns (turn_longer gives p history more from request replied to given turn) told
  message_longer history more from s m _ _ _ _ (walks fid newfid names node who found end to given same is caller walk) =
      walks fid newfid names node who found end to given same is caller (walk_longer history more s.purse who from node names found end to given walk)
  message_longer history more from s m _ _ _ _ (places.without_memory may) = places.without_memory may

  pub messages_longer : (history more : List StoreEntry) (start : Connection) (from : ℕ) (messages : List MessageView) (replies : List ReplyView) (end : Connection) (to : ℕ) (given : List StoreEntry) →
      MessagesPlaced gives p history start from messages replies end to given → MessagesPlaced gives p (history ++ more) start from messages replies end to given
  messages_longer history more start from _ _ _ _ _ no_message = no_message
  messages_longer history more start from _ _ _ _ _ (one_more messages replies s at given m reply after to others placed here) =
      one_more messages replies s at given m reply after to others (messages_longer history more start from messages replies s at given placed) (message_longer history more at s m.request reply after to others here)

  -- ---- places

  walk_places : (history : List StoreEntry) (purse : List Procap) (who : List ℕ) (from : ℕ) (node : NodeId) (names : List (List ℕ)) (found : List FidFile) (end : Option (List ℕ)) (to : ℕ) (given : List StoreEntry) →
      from ≤ length history → WalksPlaced gives p history purse who from node names found end to given → (from ≤ to) × (to ≤ length history)
  walk_places history purse who _ _ _ _ _ _ _ within (all_found from node) = (omega arith, within)
  walk_places history purse who _ _ _ _ _ _ _ within (goes_on from at to node child name names q replied kind found end given others fits turn named rest) =
      let one = turn_places gives p history from _ replied at given turn.placed in
      let more = walk_places history purse who at child names found end to others one.1 rest in
      (omega (arith, one.0, more.0), more.1)
  walk_places history purse who _ _ _ _ _ _ _ within (places.ends from to node name names q replied kind line given fits turn named is) = turn_places gives p history from _ replied to given turn.placed
  walk_places history purse who _ _ _ _ _ _ _ within (no_procap from node name names none) = (omega arith, within)
  walk_places history purse who _ _ _ _ _ _ _ within (places.lacks_memory from node name names q fits) = (omega arith, within)

  message_places : (history : List StoreEntry) (from : ℕ) (s : Connection) (m : RequestView) (reply : ReplyView) (after : Connection) (to : ℕ) (given : List StoreEntry) → from ≤ length history → MessagePlaced gives p history from s m reply after to given → (from ≤ to) × (to ≤ length history)
  message_places history from s m _ _ _ _ within (refused asked error asks is) = (omega arith, within)
  message_places history from s m _ _ _ _ within (answered asked answer after asks is) = (omega arith, within)
  message_places history from s m _ _ _ _ within (in_a_turn asked step request replied reply to given asks is turns turn told) = turn_places gives p history from request replied to given turn
  message_places history from s m _ _ _ _ within (walks fid newfid names node who found end to given same is caller walk) = walk_places history s.purse who from node names found end to given within walk
  message_places history from s m _ _ _ _ within (places.without_memory may) = (omega arith, within)

  pub messages_places : (history : List StoreEntry) (start : Connection) (from : ℕ) (messages : List MessageView) (replies : List ReplyView) (end : Connection) (to : ℕ) (given : List StoreEntry) →
      from ≤ length history → MessagesPlaced gives p history start from messages replies end to given → (from ≤ to) × (to ≤ length history)
  messages_places history start from _ _ _ _ _ within no_message = (omega arith, within)
  messages_places history start from _ _ _ _ _ within (one_more messages replies s at given m reply after to others placed here) =
      let before = messages_places history start from messages replies s at given within placed in
      let now = message_places history at s m.request reply after to others before.1 here in
      (omega (arith, before.0, now.0), now.1)

  -- ---- as many replies as messages

  pub messages_answered : (history : List StoreEntry) (start : Connection) (from : ℕ) (messages : List MessageView) (replies : List ReplyView) (end : Connection) (to : ℕ) (given : List StoreEntry) →
      MessagesPlaced gives p history start from messages replies end to given → length replies ≡ length messages
  messages_answered history start from _ _ _ _ _ no_message = refl
  messages_answered history start from _ _ _ _ _ (one_more messages replies s at given m reply after to others placed here) =
      let before = messages_answered history start from messages replies s at given placed in
      omega (arith, before, length-append messages (m ∷ []), length-append replies (reply ∷ []))

  -- ---- whose entries

  all_of_both : (pass : ℕ) (xs ys : List StoreEntry) → AllOfPass pass xs → AllOfPass pass ys → AllOfPass pass (xs ++ ys)
  all_of_both pass [] ys one other = other
  all_of_both pass (x ∷ xs) ys one other = (one.0, all_of_both pass xs ys one.1 other)

  walk_given : (history : List StoreEntry) (purse : List Procap) (who : List ℕ) (from : ℕ) (node : NodeId) (names : List (List ℕ)) (found : List FidFile) (end : Option (List ℕ)) (to : ℕ) (given : List StoreEntry) → WalksPlaced gives p history purse who from node names found end to given → AllOfPass p.number given
  walk_given history purse who _ _ _ _ _ _ _ (all_found from node) = tt
  walk_given history purse who _ _ _ _ _ _ _ (goes_on from at to node child name names q replied kind found end given others fits turn named rest) =
      all_of_both p.number given others (turn_given gives p turn.placed.before _ replied given turn.placed.turn) (walk_given history purse who at child names found end to others rest)
  walk_given history purse who _ _ _ _ _ _ _ (places.ends from to node name names q replied kind line given fits turn named is) = turn_given gives p turn.placed.before _ replied given turn.placed.turn
  walk_given history purse who _ _ _ _ _ _ _ (no_procap from node name names none) = tt
  walk_given history purse who _ _ _ _ _ _ _ (places.lacks_memory from node name names q fits) = tt

  message_given : (history : List StoreEntry) (from : ℕ) (s : Connection) (m : RequestView) (reply : ReplyView) (after : Connection) (to : ℕ) (given : List StoreEntry) → MessagePlaced gives p history from s m reply after to given → AllOfPass p.number given
  message_given history from s m _ _ _ _ (refused asked error asks is) = tt
  message_given history from s m _ _ _ _ (answered asked answer after asks is) = tt
  message_given history from s m _ _ _ _ (in_a_turn asked step request replied reply to given asks is turns turn told) = turn_given gives p turn.before request replied given turn.turn
  message_given history from s m _ _ _ _ (walks fid newfid names node who found end to given same is caller walk) = walk_given history s.purse who from node names found end to given walk
  message_given history from s m _ _ _ _ (places.without_memory may) = tt

  pub messages_given : (history : List StoreEntry) (start : Connection) (from : ℕ) (messages : List MessageView) (replies : List ReplyView) (end : Connection) (to : ℕ) (given : List StoreEntry) → MessagesPlaced gives p history start from messages replies end to given → AllOfPass p.number given
  messages_given history start from _ _ _ _ _ no_message = tt
  messages_given history start from _ _ _ _ _ (one_more messages replies s at given m reply after to others placed here) =
      all_of_both p.number given others (messages_given history start from messages replies s at given placed) (message_given history at s m.request reply after to others here)
