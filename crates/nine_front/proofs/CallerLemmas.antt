-- Each entry that a connection is given is by somebody whom a message of it logged in over its nonce.
use Rattle.std.proofs.Common.{◌≡◌, ◌∙◌, ℕ, List, [], ◌∷◌, ◌++◌, length, Bool, true, false, cond, eqb, Option, Some, None, refl, sym, ap, subst}
use Rattle.std.specs.Prelude.{ℤ}
use Rattle.std.specs.List.{AllByRecursion}
use Rattle.std.specs.Option.{option_map}
use Rattle.bl_syntax.specs.declared.terms.NodeId.{NodeId}
use Rattle.procap.specs.declared.procap.Procap.{Procap}
use Rattle.policy_statement.specs.Messages.{login_message}
use Rattle.policy_statement.specs.Ring.{is_accepted}
use Rattle.journal_records.specs.declared.event.Event.{Event}
use Rattle.journal_records.specs.declared.event.Event.TheVariants.{Registered, Issued, Withdrawn, Acted}
use Rattle.access_history.specs.declared.request.StepRequest.{StepRequest}
use Rattle.access_history.specs.declared.request.StepRequest.TheVariants as acts
use Rattle.access_history.specs.declared.reply.StepReply.{StepReply}
use Rattle.access_history.specs.Authority.{Authority}
use Rattle.access_history.specs.Base.{BaseView}
use Rattle.access_history.specs.Answer.{Answers, registered, withdrawn, issued, acted}
use Rattle.pcfs_store.specs.Entries.{Root, StoreEntry, happened, checkpointed, stopped, state_of_entries}
use Rattle.session_history.specs.declared.request.TurnRequest.{TurnRequest}
use Rattle.session_history.specs.declared.request.TurnRequest.TheVariants as requests
use Rattle.session_history.specs.declared.reply.TurnReply.{TurnReply}
use Rattle.session_history.specs.declared.reply.TurnReply.TheVariants as turn_replies
use Rattle.session_history.specs.Turn.{StorePass, authority_of_root, event_of, AnswersTurn, Turn}
use Rattle.session_history.specs.Turn as turns
use Rattle.nine_messages.specs.Requests.{RequestView, tversion, tattach, tflush, twalk, topen, tread, twrite, tclunk, tother, MessageView}
use Rattle.nine_messages.specs.Replies.{ReplyView}
use Rattle.nine_fids.specs.declared.connection.Connection.{Connection}
use Rattle.nine_fids.specs.declared.control.Control.{Control}
use Rattle.nine_fids.specs.declared.fid.FidFile.{FidFile}
use Rattle.nine_fids.specs.declared.step.Step.{Step}
use Rattle.nine_fids.specs.declared.step.Step.TheVariants as steps
use Rattle.nine_fids.specs.States.{begun_with}
use Rattle.nine_fids.specs.Steps.{Outcome, decided}
use Rattle.nine_fids.specs.Walks.{last_of, standing_for, walked}
use Rattle.nine_fids.proofs.LawLemmas.{Changes, leaves}
use Rattle.nine_front.specs.Asked.{Asks, in_one_turn, HasLoggedIn, IsEventByLogin, IsMetByLogin, IsByLogin}
use Rattle.nine_front.specs.Asking.{IsTurnOf, look_of, after_login, after_turn}
use Rattle.nine_front.specs.Placed.{WalksPlaced, all_found, goes_on, no_procap, lacks_memory, MessagePlaced, refused, answered, in_a_turn, walks, without_memory, MessagesPlaced, no_message, one_more}
use Rattle.nine_front.specs.Placed as places
use Rattle.nine_front.proofs.AskedLemmas.{one_here, one_of_more}

-- ---- what a request leaves that is answered at once

-- the nonce, and who is logged in
abbrev IsAlike : Connection → Connection → Type 0
IsAlike s after = (after.nonce ≡ s.nonce) × (after.caller ≡ s.caller)

alike_changes : (s : Connection) (m : RequestView) → Changes (IsAlike s) s m
alike_changes s (tversion msize version) = λ low. (refl, refl)
alike_changes s (tattach fid afid uname aname) = λ room f. (refl, refl)
alike_changes s (tflush oldtag) = tt
alike_changes s (twalk fid newfid names) = λ room f. (refl, refl)
alike_changes s (topen fid mode) = λ room f. (refl, refl)
alike_changes s (tread fid offset count) = tt
alike_changes s (twrite fid offset bytes) = (λ p room. (refl, refl), (refl, refl))
alike_changes s (tclunk fid) = (refl, refl)
alike_changes s (tother kind body) = tt

alike_decided : (s : Connection) (asked : Option Control) (m : RequestView) (step : Step) (after : Connection) → decided s asked m ≡ (step, after) → IsAlike s after
alike_decided s asked m step after is = subst (IsAlike s) (ap (λ (o : Outcome). o.1) is) (leaves (IsAlike s) s asked m (refl, refl) (alike_changes s m))

alike_standing : (s : Connection) (newfid : ℕ) (file : Option FidFile) → IsAlike s (standing_for s newfid file)
alike_standing s newfid None = (refl, refl)
alike_standing s newfid (Some file) = (refl, refl)

alike_walked : (s : Connection) (newfid names : ℕ) (found : List FidFile) → IsAlike s (walked s newfid names found)
alike_walked s newfid names found = by (eqb (length found) names)
  where
    by : (all : Bool) → IsAlike s (cond all (standing_for s newfid (last_of found)) s)
    by true = alike_standing s newfid (last_of found)
    by false = (refl, refl)

-- ---- an accepted login

answer_accepted : (root : Root) (state : BaseView) (pass : ℕ) (clock : ℤ) (request : TurnRequest) (reply : TurnReply) (entry : Option StoreEntry) (who nonce signature : List ℕ) → AnswersTurn root state pass clock request reply entry →
    request ≡ requests.Login who nonce signature → reply ≡ turn_replies.LoggedIn → is_accepted root.ring who (login_message who nonce) signature ≡ true
answer_accepted root state pass clock _ _ _ who nonce signature (turns.steps request reply event answers) asks told = absurd cc
answer_accepted root state pass clock _ _ _ who nonce signature turns.makes asks told = absurd cc
answer_accepted root state pass clock _ _ _ who nonce signature (turns.cites numbers cited found) asks told = absurd cc
answer_accepted root state pass clock _ _ _ who nonce signature (turns.cites_none numbers number absent) asks told = absurd cc
answer_accepted root state pass clock _ _ _ who nonce signature (turns.logs_in one over signed is) asks told =
    let a : one ≡ who = cc in
    let b : over ≡ nonce = cc in
    let d : signed ≡ signature = cc in
    subst (λ (w : List ℕ). is_accepted root.ring w (login_message w nonce) signature ≡ true) a
    (subst (λ (n : List ℕ). is_accepted root.ring one (login_message one n) signature ≡ true) b (subst (λ (g : List ℕ). is_accepted root.ring one (login_message one over) g ≡ true) d is))
answer_accepted root state pass clock _ _ _ who nonce signature (turns.rejects one over signed is) asks told = absurd cc

turn_accepted : (gives : List StoreEntry → ℤ → Type 0) (p : StorePass) (before : List StoreEntry) (request : TurnRequest) (reply : TurnReply) (given : List StoreEntry) (who nonce signature : List ℕ) → Turn gives p before request reply given →
    request ≡ requests.Login who nonce signature → reply ≡ turn_replies.LoggedIn → is_accepted p.root.ring who (login_message who nonce) signature ≡ true
turn_accepted gives p before request _ _ who nonce signature (turns.was_stopped is) asks told = absurd cc
turn_accepted gives p before request _ _ who nonce signature (turns.answered clock answer running shown answers) asks told = answer_accepted p.root (state_of_entries p.root before) p.number clock request answer None who nonce signature answers asks told
turn_accepted gives p before request _ _ who nonce signature (turns.full clock answer entry running shown answers is_full) asks told = absurd cc
turn_accepted gives p before request _ _ who nonce signature (turns.kept clock answer entry running shown answers room) asks told = answer_accepted p.root (state_of_entries p.root before) p.number clock request answer (Some entry) who nonce signature answers asks told
turn_accepted gives p before request _ _ who nonce signature (turns.failed clock answer entry running shown answers room) asks told = absurd cc
turn_accepted gives p before request _ _ who nonce signature turns.without_memory asks told = absurd cc

module _ (gives : List StoreEntry → ℤ → Type 0) (p : StorePass) (history : List StoreEntry) (nonce : List ℕ) (from : ℕ) where
  abbrev Logged : List MessageView → List ℕ → Type 0
  Logged messages who = HasLoggedIn gives p history nonce from messages who

  abbrev By : List MessageView → StoreEntry → Type 0
  By messages entry = IsByLogin gives p history nonce from messages entry

  -- ---- more messages

  logged_more : (messages more : List MessageView) (who : List ℕ) → Logged messages who → Logged (messages ++ more) who
  logged_more messages more who h = record {
    one = one_of_more gives p history (begun_with nonce) from messages more h.one;
    signature = h.signature;
    asks = h.asks;
    accepted = h.accepted;
    reply = h.reply;
    after = h.after;
    to = h.to;
    given = h.given;
    placed = h.placed;
    logged_in = h.logged_in;
  }

  event_more : (messages more : List MessageView) (event : Event) → IsEventByLogin gives p history nonce from messages event → IsEventByLogin gives p history nonce from (messages ++ more) event
  event_more messages more (Acted pass caller op procaps moment) by_some = logged_more messages more caller by_some
  event_more messages more (Registered pass statement signature) by_some = by_some
  event_more messages more (Issued pass cited proof grant) by_some = by_some
  event_more messages more (Withdrawn pass number signature) by_some = by_some

  entry_more : (messages more : List MessageView) (entry : StoreEntry) → By messages entry → By (messages ++ more) entry
  entry_more messages more (happened event) by_some = event_more messages more event by_some
  entry_more messages more (checkpointed pass) by_some = by_some
  entry_more messages more (stopped pass None) by_some = by_some
  entry_more messages more (stopped pass (Some event)) by_some = event_more messages more event by_some

  all_more : (messages more : List MessageView) (given : List StoreEntry) → AllByRecursion (By messages) given → AllByRecursion (By (messages ++ more)) given
  all_more messages more [] all = tt
  all_more messages more (entry ∷ given) all = (entry_more messages more entry all.0, all_more messages more given all.1)

  all_both : (messages : List MessageView) (xs ys : List StoreEntry) → AllByRecursion (By messages) xs → AllByRecursion (By messages) ys → AllByRecursion (By messages) (xs ++ ys)
  all_both messages [] ys one other = other
  all_both messages (x ∷ xs) ys one other = (one.0, all_both messages xs ys one.1 other)

  -- ---- who is logged in

  abbrev IsCallerLogged : List MessageView → Option (List ℕ) → Type 0
  IsCallerLogged messages None = Unit {0}
  IsCallerLogged messages (Some who) = Logged messages who

  caller_more : (messages more : List MessageView) (caller : Option (List ℕ)) → IsCallerLogged messages caller → IsCallerLogged (messages ++ more) caller
  caller_more messages more None logged = tt
  caller_more messages more (Some who) logged = logged_more messages more who logged

  -- the connection has this nonce, and one of these messages logged in whoever is
  record Stands (messages : List MessageView) (s : Connection) : Type 0 where
    over : s.nonce ≡ nonce
    logged : IsCallerLogged messages s.caller

  stands_alike : (messages more : List MessageView) (s after : Connection) → IsAlike s after → Stands messages s → Stands (messages ++ more) after
  stands_alike messages more s after alike h = record {
    over = alike.0 ∙ h.over;
    logged = caller_more messages more after.caller (subst (IsCallerLogged messages) (sym alike.1) h.logged);
  }

  logged_as : (messages : List MessageView) (s : Connection) (who : List ℕ) → Stands messages s → s.caller ≡ Some who → Logged messages who
  logged_as messages s who h caller = subst (IsCallerLogged messages) caller h.logged

  -- ---- what a turn keeps

  -- who acts by a turn of this front: an operation alone is kept
  abbrev IsActBy : List MessageView → TurnRequest → Type 0
  IsActBy messages (requests.Step (acts.Register statement signature)) = ⊥
  IsActBy messages (requests.Step (acts.Withdraw number signature)) = ⊥
  IsActBy messages (requests.Step (acts.Issue checked)) = ⊥
  IsActBy messages (requests.Step (acts.Act who op procaps)) = Logged messages who
  IsActBy messages (requests.Step (acts.ShowProcap number who)) = ⊥
  IsActBy messages (requests.Cite numbers) = ⊥
  IsActBy messages requests.Checkpoint = ⊥
  IsActBy messages (requests.Login who over signature) = Unit {0}

  event_by : (messages : List MessageView) (authority : Authority) (state : BaseView) (pass : ℕ) (clock : ℤ) (request : StepRequest) (reply : StepReply) (event : Event) → IsActBy messages (requests.Step request) → Answers authority state pass clock request reply (Some event) → IsEventByLogin gives p history nonce from messages event
  event_by messages authority state pass clock request reply event by_some (registered statement signature may) = by_some
  event_by messages authority state pass clock request reply event by_some (withdrawn number signature may) = by_some
  event_by messages authority state pass clock request reply event by_some (issued checked rising granted stand) = by_some
  event_by messages authority state pass clock request reply event by_some (acted caller op procaps admitted free) = by_some

  abbrev IsEntryBy : List MessageView → Option StoreEntry → Type 0
  IsEntryBy messages None = Unit {0}
  IsEntryBy messages (Some entry) = By messages entry

  of_answer : (messages : List MessageView) (authority : Authority) (state : BaseView) (pass : ℕ) (clock : ℤ) (request : StepRequest) (reply : StepReply) (event : Option Event) → IsActBy messages (requests.Step request) → Answers authority state pass clock request reply event → IsEntryBy messages (option_map happened event)
  of_answer messages authority state pass clock request reply None by_some answers = tt
  of_answer messages authority state pass clock request reply (Some event) by_some answers = event_by messages authority state pass clock request reply event by_some answers

  of_turn_answer : (messages : List MessageView) (root : Root) (state : BaseView) (pass : ℕ) (clock : ℤ) (request : TurnRequest) (answer : TurnReply) (entry : Option StoreEntry) → IsActBy messages request → AnswersTurn root state pass clock request answer entry → IsEntryBy messages entry
  of_turn_answer messages root state pass clock _ _ _ by_some (turns.steps request reply event answers) = of_answer messages (authority_of_root root) state pass clock request reply event by_some answers
  of_turn_answer messages root state pass clock _ _ _ by_some turns.makes = by_some
  of_turn_answer messages root state pass clock _ _ _ by_some (turns.cites numbers cited found) = tt
  of_turn_answer messages root state pass clock _ _ _ by_some (turns.cites_none numbers number absent) = tt
  of_turn_answer messages root state pass clock _ _ _ by_some (turns.logs_in who over signature is) = tt
  of_turn_answer messages root state pass clock _ _ _ by_some (turns.rejects who over signature is) = tt

  -- what was being added when a disk failed
  met_by : (messages : List MessageView) (entry : StoreEntry) → By messages entry → IsMetByLogin gives p history nonce from messages (event_of entry)
  met_by messages (happened event) by_some = by_some
  met_by messages (checkpointed pass) by_some = by_some
  met_by messages (stopped pass met) by_some = by_some

  turn_by : (messages : List MessageView) (before : List StoreEntry) (request : TurnRequest) (reply : TurnReply) (given : List StoreEntry) → IsActBy messages request → Turn gives p before request reply given → AllByRecursion (By messages) given
  turn_by messages before request _ _ by_some (turns.was_stopped is) = tt
  turn_by messages before request _ _ by_some (turns.answered clock answer running shown answers) = tt
  turn_by messages before request _ _ by_some (turns.full clock answer entry running shown answers is_full) = tt
  turn_by messages before request _ _ by_some (turns.kept clock answer entry running shown answers room) =
      (of_turn_answer messages p.root (state_of_entries p.root before) p.number clock request answer (Some entry) by_some answers, tt)
  turn_by messages before request _ _ by_some (turns.failed clock answer entry running shown answers room) =
      (met_by messages entry (of_turn_answer messages p.root (state_of_entries p.root before) p.number clock request answer (Some entry) by_some answers), tt)
  turn_by messages before request _ _ by_some turns.without_memory = tt

  -- who acts by the turn of a step
  step_by : (messages : List MessageView) (s : Connection) (m : RequestView) (step : Step) (request : TurnRequest) → Stands messages s → IsTurnOf s m step request → IsActBy messages request
  step_by messages s m (steps.Refused error) request h turn = absurd turn
  step_by messages s m (steps.Answered answer) request h turn = absurd turn
  step_by messages s m (steps.Login who signature) request h turn = subst (IsActBy messages) (sym turn) tt
  step_by messages s m (steps.Read node p offset len) request h turn = subst (IsActBy messages) (sym turn.2) (logged_as messages s turn.0 h turn.1)
  step_by messages s m (steps.Write node p offset) request h turn = subst (IsActBy messages) (sym turn.2) (logged_as messages s turn.0 h turn.1)
  step_by messages s m (steps.Walk node) request h turn = absurd turn

  -- ---- a message after others

  module _ (messages : List MessageView) (told : List ReplyView) (s : Connection) (at : ℕ) (added : List StoreEntry) (m : MessageView) (so_far : MessagesPlaced gives p history (begun_with nonce) from messages told s at added) (h : Stands messages s) where
    stays : Stands (messages ++ m ∷ []) s
    stays = stands_alike messages (m ∷ []) s s (refl, refl) h

    -- an accepted login
    logs_in : (who signature : List ℕ) (before taken : List StoreEntry) (reply : ReplyView) (to : ℕ) (given : List StoreEntry) → Asks s m.request (requests.Login who s.nonce signature) →
        Turn gives p before (requests.Login who s.nonce signature) turn_replies.LoggedIn taken → MessagePlaced gives p history at s m.request reply (record s { caller = Some who }) to given → Stands (messages ++ m ∷ []) (record s { caller = Some who })
    logs_in who signature before taken reply to given asks turn here =
        let accepted = turn_accepted gives p before (requests.Login who s.nonce signature) turn_replies.LoggedIn taken who s.nonce signature turn refl refl in
        record {
          over = h.over;
          logged = record {
            one = one_here gives p history (begun_with nonce) from messages told s at added m so_far;
            signature = signature;
            asks = subst (λ (n : List ℕ). Asks s m.request (requests.Login who n signature)) h.over asks;
            accepted = subst (λ (n : List ℕ). is_accepted p.root.ring who (login_message who n) signature ≡ true) h.over accepted;
            reply = reply;
            after = record s { caller = Some who };
            to = to;
            given = given;
            placed = here;
            logged_in = refl;
          };
        }

    login_stands : (who signature : List ℕ) (replied : TurnReply) (before taken : List StoreEntry) (reply : ReplyView) (to : ℕ) (given : List StoreEntry) → Asks s m.request (requests.Login who s.nonce signature) →
        Turn gives p before (requests.Login who s.nonce signature) replied taken → MessagePlaced gives p history at s m.request reply (after_login s who replied) to given → Stands (messages ++ m ∷ []) (after_login s who replied)
    login_stands who signature (turn_replies.Step done) before taken reply to given asks turn here = stays
    login_stands who signature (turn_replies.Cited cites) before taken reply to given asks turn here = stays
    login_stands who signature turn_replies.LoggedIn before taken reply to given asks turn here = logs_in who signature before taken reply to given asks turn here
    login_stands who signature turn_replies.Checkpointed before taken reply to given asks turn here = stays
    login_stands who signature turn_replies.Full before taken reply to given asks turn here = stays
    login_stands who signature turn_replies.Stopped before taken reply to given asks turn here = stays
    login_stands who signature turn_replies.NoMemory before taken reply to given asks turn here = stays

    turn_stands : (step : Step) (request : TurnRequest) (replied : TurnReply) (before taken : List StoreEntry) (reply : ReplyView) (to : ℕ) (given : List StoreEntry) → IsTurnOf s m.request step request → Asks s m.request request →
        Turn gives p before request replied taken → MessagePlaced gives p history at s m.request reply (after_turn s step replied) to given → Stands (messages ++ m ∷ []) (after_turn s step replied)
    turn_stands (steps.Refused error) request replied before taken reply to given turns_is asks turn here = absurd turns_is
    turn_stands (steps.Answered answer) request replied before taken reply to given turns_is asks turn here = absurd turns_is
    turn_stands (steps.Login who signature) request replied before taken reply to given turns_is asks turn here =
        login_stands who signature replied before taken reply to given (subst (Asks s m.request) turns_is asks) (subst (λ (r : TurnRequest). Turn gives p before r replied taken) turns_is turn) here
    turn_stands (steps.Read node q offset len) request replied before taken reply to given turns_is asks turn here = stays
    turn_stands (steps.Write node q offset) request replied before taken reply to given turns_is asks turn here = stays
    turn_stands (steps.Walk node) request replied before taken reply to given turns_is asks turn here = absurd turns_is

    message_stands : (reply : ReplyView) (after : Connection) (to : ℕ) (given : List StoreEntry) → MessagePlaced gives p history at s m.request reply after to given → Stands (messages ++ m ∷ []) after
    message_stands _ _ _ _ (refused asked error asks is) = stays
    message_stands _ _ _ _ (answered asked answer after asks is) = stands_alike messages (m ∷ []) s after (alike_decided s asked m.request (steps.Answered answer) after is) h
    message_stands _ _ _ _ (in_a_turn asked step request replied reply to given asks is turns_is turn told_is) =
        turn_stands step request replied turn.before given reply to given turns_is (in_one_turn asked step request asks is turns_is) turn.turn (in_a_turn asked step request replied reply to given asks is turns_is turn told_is)
    message_stands _ _ _ _ (walks fid newfid names node who found end to given same is caller walk) =
        stands_alike messages (m ∷ []) s (walked s newfid (length names) found) (alike_walked s newfid (length names) found) h
    message_stands _ _ _ _ (without_memory may) = stays

    -- what it adds

    walk_by : (purse : List Procap) (who : List ℕ) → Logged messages who → (place : ℕ) (node : NodeId) (names : List (List ℕ)) (found : List FidFile) (end : Option (List ℕ)) (to : ℕ) (given : List StoreEntry) → WalksPlaced gives p history purse who place node names found end to given →
        AllByRecursion (By messages) given
    walk_by purse who logged _ _ _ _ _ _ _ (all_found place node) = tt
    walk_by purse who logged _ _ _ _ _ _ _ (goes_on place mid to node child name names q replied kind found end given more fits turn named rest) =
        all_both messages given more (turn_by messages turn.placed.before (look_of who node name q) replied given logged turn.placed.turn) (walk_by purse who logged mid child names found end to more rest)
    walk_by purse who logged _ _ _ _ _ _ _ (places.ends place to node name names q replied kind line given fits turn named is) = turn_by messages turn.placed.before (look_of who node name q) replied given logged turn.placed.turn
    walk_by purse who logged _ _ _ _ _ _ _ (no_procap place node name names none) = tt
    walk_by purse who logged _ _ _ _ _ _ _ (lacks_memory place node name names q fits) = tt

    message_by : (reply : ReplyView) (after : Connection) (to : ℕ) (given : List StoreEntry) → MessagePlaced gives p history at s m.request reply after to given → AllByRecursion (By messages) given
    message_by _ _ _ _ (refused asked error asks is) = tt
    message_by _ _ _ _ (answered asked answer after asks is) = tt
    message_by _ _ _ _ (in_a_turn asked step request replied reply to given asks is turns_is turn told_is) = turn_by messages turn.before request replied given (step_by messages s m.request step request h turns_is) turn.turn
    message_by _ _ _ _ (walks fid newfid names node who found end to given same is caller walk) = walk_by s.purse who (logged_as messages s who h caller) at node names found end to given walk
    message_by _ _ _ _ (without_memory may) = tt

  messages_stand : (messages : List MessageView) (replies : List ReplyView) (end : Connection) (to : ℕ) (given : List StoreEntry) → MessagesPlaced gives p history (begun_with nonce) from messages replies end to given → Stands messages end
  messages_stand _ _ _ _ _ no_message = record { over = refl; logged = tt }
  messages_stand _ _ _ _ _ (one_more messages replies s at given m reply after to more placed here) =
      message_stands messages replies s at given m placed (messages_stand messages replies s at given placed) reply after to more here

  pub logins_accepted : (messages : List MessageView) (replies : List ReplyView) (end : Connection) (to : ℕ) (given : List StoreEntry) (who : List ℕ) → MessagesPlaced gives p history (begun_with nonce) from messages replies end to given → end.caller ≡ Some who → HasLoggedIn gives p history nonce from messages who
  logins_accepted messages replies end to given who placed caller = logged_as messages end who (messages_stand messages replies end to given placed) caller

  pub callers_accepted : (messages : List MessageView) (replies : List ReplyView) (end : Connection) (to : ℕ) (given : List StoreEntry) → MessagesPlaced gives p history (begun_with nonce) from messages replies end to given → AllByRecursion (IsByLogin gives p history nonce from messages) given
  callers_accepted _ _ _ _ _ no_message = tt
  callers_accepted _ _ _ _ _ (one_more messages replies s at given m reply after to more placed here) =
      all_both (messages ++ m ∷ []) given more (all_more messages (m ∷ []) given (callers_accepted messages replies s at given placed))
      (all_more messages (m ∷ []) more (message_by messages replies s at given m placed (messages_stand messages replies s at given placed) reply after to more here))
