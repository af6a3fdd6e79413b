-- Each entry that a connection is given is one that a message of it asks for.
use Rattle.std.proofs.Common.{◌≡◌, ◌∙◌, ℕ, List, [], ◌∷◌, ◌++◌, Option, Some, None, refl, sym, ap, subst, append_assoc}
use Rattle.std.specs.Prelude.{ℤ}
use Rattle.std.specs.Option.{option_map}
use Rattle.bl_syntax.specs.declared.terms.NodeId.{NodeId}
use Rattle.journal_records.specs.declared.event.Event.{Event}
use Rattle.access_history.specs.Base.{BaseView}
use Rattle.pcfs_store.specs.Entries.{Root, StoreEntry, happened, stopped, state_of_entries}
use Rattle.session_history.specs.declared.request.TurnRequest.{TurnRequest}
use Rattle.session_history.specs.declared.reply.TurnReply.{TurnReply}
use Rattle.session_history.specs.Laws.{asked_entry}
use Rattle.session_history.specs.Turn.{StorePass, event_of, AnswersTurn, Turn}
use Rattle.session_history.specs.Turn as turns
use Rattle.nine_messages.specs.Requests.{twalk, MessageView}
use Rattle.nine_messages.specs.Replies.{ReplyView}
use Rattle.nine_fids.specs.declared.connection.Connection.{Connection}
use Rattle.nine_fids.specs.declared.fid.FidFile.{FidFile}
use Rattle.nine_fids.specs.declared.step.Step.TheVariants as steps
use Rattle.nine_fids.specs.Steps.{decided}
use Rattle.nine_front.specs.Asked.{Asks, in_one_turn, in_a_walk, OneOfMessages, IsAskedByMessage, AreAskedByMessages}
use Rattle.nine_front.specs.Asking.{look_of}
use Rattle.nine_front.specs.Placed.{WalksPlaced, all_found, goes_on, no_procap, lacks_memory, MessagePlaced, refused, answered, in_a_turn, walks, without_memory, MessagesPlaced, no_message, one_more}
use Rattle.nine_front.specs.Placed as places

-- ---- what an answer adds is no mark

abbrev IsPlain : ℕ → Option StoreEntry → Type 0
IsPlain pass None = Unit {0}
IsPlain pass (Some entry) = (asked_entry entry ≡ entry) × (asked_entry (stopped pass (event_of entry)) ≡ entry)

plain_event : (pass : ℕ) (event : Option Event) → IsPlain pass (option_map happened event)
plain_event pass None = tt
plain_event pass (Some event) = (refl, refl)

plain : (root : Root) (state : BaseView) (pass : ℕ) (clock : ℤ) (request : TurnRequest) (reply : TurnReply) (entry : Option StoreEntry) → AnswersTurn root state pass clock request reply entry → IsPlain pass entry
plain root state pass clock _ _ _ (turns.steps request reply event answers) = plain_event pass event
plain root state pass clock _ _ _ turns.makes = (refl, refl)
plain root state pass clock _ _ _ (turns.cites numbers cited found) = tt
plain root state pass clock _ _ _ (turns.cites_none numbers number absent) = tt
plain root state pass clock _ _ _ (turns.logs_in who nonce signature is) = tt
plain root state pass clock _ _ _ (turns.rejects who nonce signature is) = tt

-- ---- what a turn adds

-- the answer to what the turn asks adds the entry
record Adds (gives : List StoreEntry → ℤ → Type 0) (p : StorePass) (found : List StoreEntry) (request : TurnRequest) (entry : StoreEntry) : Type 0 where
  moment : ℤ
  shown : gives found moment
  answer : TurnReply
  answers : AnswersTurn p.root (state_of_entries p.root found) p.number moment request answer (Some entry)

-- so it does of the only entry that is added, if one is
abbrev AddsOne : (List StoreEntry → ℤ → Type 0) → StorePass → List StoreEntry → TurnRequest → List StoreEntry → Type 0
AddsOne gives p found request [] = Unit {0}
AddsOne gives p found request (entry ∷ []) = Adds gives p found request (asked_entry entry)
AddsOne gives p found request (entry ∷ next ∷ more) = ⊥

turn_adds : (gives : List StoreEntry → ℤ → Type 0) (p : StorePass) (before : List StoreEntry) (request : TurnRequest) (reply : TurnReply) (given : List StoreEntry) → Turn gives p before request reply given → AddsOne gives p before request given
turn_adds gives p before request _ _ (turns.was_stopped is) = tt
turn_adds gives p before request _ _ (turns.answered clock answer running shown answers) = tt
turn_adds gives p before request _ _ (turns.full clock answer entry running shown answers is_full) = tt
turn_adds gives p before request _ _ (turns.kept clock answer entry running shown answers room) =
    subst (Adds gives p before request) (sym (plain p.root (state_of_entries p.root before) p.number clock request answer (Some entry) answers).0) (record { moment = clock; shown = shown; answer = answer; answers = answers })
turn_adds gives p before request _ _ (turns.failed clock answer entry running shown answers room) =
    subst (Adds gives p before request) (sym (plain p.root (state_of_entries p.root before) p.number clock request answer (Some entry) answers).1) (record { moment = clock; shown = shown; answer = answer; answers = answers })
turn_adds gives p before request _ _ turns.without_memory = tt

-- ---- one of some messages

module _ (gives : List StoreEntry → ℤ → Type 0) (p : StorePass) (history : List StoreEntry) (start : Connection) (from : ℕ) (heard : List MessageView) where
  -- the last one
  abbrev pub one_here : (told : List ReplyView) (s : Connection) (at : ℕ) (added : List StoreEntry) (m : MessageView) → MessagesPlaced gives p history start from heard told s at added → OneOfMessages gives p history start from (heard ++ m ∷ [])
  one_here told s at added m placed = record { earlier = heard; message = m; later = []; among = refl; told = told; state = s; at = at; added = added; so_far = placed }

  -- it is one of more
  abbrev pub one_of_more : (more : List MessageView) → OneOfMessages gives p history start from heard → OneOfMessages gives p history start from (heard ++ more)
  one_of_more more o = record {
    earlier = o.earlier;
    message = o.message;
    later = o.later ++ more;
    among = ap (λ (l : List MessageView). l ++ more) o.among ∙ append_assoc o.earlier (o.message ∷ o.later) more;
    told = o.told;
    state = o.state;
    at = o.at;
    added = o.added;
    so_far = o.so_far;
  }

-- ---- what a message adds

module _ (gives : List StoreEntry → ℤ → Type 0) (p : StorePass) (history : List StoreEntry) (start : Connection) (from : ℕ) where
  all_both : (messages : List MessageView) (xs ys : List StoreEntry) → AreAskedByMessages gives p history start from messages xs → AreAskedByMessages gives p history start from messages ys → AreAskedByMessages gives p history start from messages (xs ++ ys)
  all_both messages [] ys one other = other
  all_both messages (x ∷ xs) ys one other = (one.0, all_both messages xs ys one.1 other)

  module _ (heard : List MessageView) (told : List ReplyView) (s : Connection) (at : ℕ) (added : List StoreEntry) (m : MessageView) (placed : MessagesPlaced gives p history start from heard told s at added) where
    asked : (request : TurnRequest) (found after : List StoreEntry) (entry : StoreEntry) → Asks s m.request request → history ≡ found ++ (entry ∷ after) → Adds gives p found request (asked_entry entry) → IsAskedByMessage gives p history start from (heard ++ m ∷ []) entry
    asked request found after entry asks parts adds = record {
      one = one_here gives p history start from heard told s at added m placed;
      request = request;
      asks = asks;
      found = found;
      begins = (after, append_assoc found (entry ∷ []) after ∙ sym parts);
      moment = adds.moment;
      shown = adds.shown;
      answer = adds.answer;
      answers = adds.answers;
    }

    all_asked : (request : TurnRequest) (found after : List StoreEntry) → Asks s m.request request → (given : List StoreEntry) → history ≡ found ++ (given ++ after) → AddsOne gives p found request given → AreAskedByMessages gives p history start from (heard ++ m ∷ []) given
    all_asked request found after asks [] parts adds = tt
    all_asked request found after asks (entry ∷ []) parts adds = (asked request found after entry asks parts adds, tt)
    all_asked request found after asks (entry ∷ next ∷ more) parts adds = absurd adds

    -- the names of a walk, of which these were before
    walk_asked : (fid newfid : ℕ) (node : NodeId) (who : List ℕ) → decided s None m.request ≡ (steps.Walk node, s) → s.caller ≡ Some who → (earlier : List (List ℕ)) (place : ℕ) (directory : NodeId) (names : List (List ℕ)) (found : List FidFile) (end : Option (List ℕ)) (to : ℕ) (given : List StoreEntry) →
        m.request ≡ twalk fid newfid (earlier ++ names) → WalksPlaced gives p history s.purse who place directory names found end to given → AreAskedByMessages gives p history start from (heard ++ m ∷ []) given
    walk_asked fid newfid node who is caller earlier _ _ _ _ _ _ _ same (all_found place directory) = tt
    walk_asked fid newfid node who is caller earlier _ _ _ _ _ _ _ same (goes_on place mid to directory child name names q replied kind found end given more fits turn named rest) =
        let t = turn.placed in
        let also : m.request ≡ twalk fid newfid ((earlier ++ name ∷ []) ++ names) = same ∙ ap (twalk fid newfid) (sym (append_assoc earlier (name ∷ []) names)) in
        all_both (heard ++ m ∷ []) given more
        (all_asked (look_of who directory name q) t.before t.after (in_a_walk fid newfid earlier names name node directory who q same is caller fits) given t.parts (turn_adds gives p t.before (look_of who directory name q) replied given t.turn))
        (walk_asked fid newfid node who is caller (earlier ++ name ∷ []) mid child names found end to more also rest)
    walk_asked fid newfid node who is caller earlier _ _ _ _ _ _ _ same (places.ends place to directory name names q replied kind line given fits turn named told_is) =
        let t = turn.placed in
        all_asked (look_of who directory name q) t.before t.after (in_a_walk fid newfid earlier names name node directory who q same is caller fits) given t.parts (turn_adds gives p t.before (look_of who directory name q) replied given t.turn)
    walk_asked fid newfid node who is caller earlier _ _ _ _ _ _ _ same (no_procap place directory name names none) = tt
    walk_asked fid newfid node who is caller earlier _ _ _ _ _ _ _ same (lacks_memory place directory name names q fits) = tt

    message_asked : (place : ℕ) (reply : ReplyView) (after : Connection) (to : ℕ) (given : List StoreEntry) → MessagePlaced gives p history place s m.request reply after to given → AreAskedByMessages gives p history start from (heard ++ m ∷ []) given
    message_asked place _ _ _ _ (refused control error asks is) = tt
    message_asked place _ _ _ _ (answered control answer after asks is) = tt
    message_asked place _ _ _ _ (in_a_turn control step request replied reply to given asks is turn_is turn told_is) =
        all_asked request turn.before turn.after (in_one_turn control step request asks is turn_is) given turn.parts (turn_adds gives p turn.before request replied given turn.turn)
    message_asked place _ _ _ _ (walks fid newfid names node who found end to given same is caller walk) = walk_asked fid newfid node who is caller [] place node names found end to given same walk
    message_asked place _ _ _ _ (without_memory may) = tt

  -- ---- more messages

  asked_more : (heard more : List MessageView) (entry : StoreEntry) → IsAskedByMessage gives p history start from heard entry → IsAskedByMessage gives p history start from (heard ++ more) entry
  asked_more heard more entry a = record {
    one = one_of_more gives p history start from heard more a.one;
    request = a.request;
    asks = a.asks;
    found = a.found;
    begins = a.begins;
    moment = a.moment;
    shown = a.shown;
    answer = a.answer;
    answers = a.answers;
  }

  all_more : (heard more : List MessageView) (given : List StoreEntry) → AreAskedByMessages gives p history start from heard given → AreAskedByMessages gives p history start from (heard ++ more) given
  all_more heard more [] all = tt
  all_more heard more (entry ∷ given) all = (asked_more heard more entry all.0, all_more heard more given all.1)

  pub entries_asked : (heard : List MessageView) (told : List ReplyView) (end : Connection) (to : ℕ) (given : List StoreEntry) → MessagesPlaced gives p history start from heard told end to given → AreAskedByMessages gives p history start from heard given
  entries_asked _ _ _ _ _ no_message = tt
  entries_asked _ _ _ _ _ (one_more heard told s at given m reply after to more placed here) =
      all_both (heard ++ m ∷ []) given more (all_more heard (m ∷ []) given (entries_asked heard told s at given placed)) (message_asked heard told s at given m placed at reply after to more here)
