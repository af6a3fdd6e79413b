-- Each entry that a session is given is one that a line of it asks for.
use Rattle.std.proofs.Common.{◌≡◌, ◌∙◌, ℕ, List, [], ◌∷◌, ◌++◌, Option, Some, None, refl, sym, ap, subst, append_assoc}
use Rattle.std.specs.Prelude.{ℤ}
use Rattle.std.specs.Option.{option_map}
use Rattle.proof_verifier.specs.declared.cites.Cite.{Cite as Citation}
use Rattle.proof_verifier.specs.CheckedView.{checked_view}
use Rattle.journal_records.specs.declared.event.Event.{Event}
use Rattle.access_history.specs.declared.request.StepRequest.TheVariants.{Issue}
use Rattle.access_history.specs.Base.{BaseView}
use Rattle.access_history.specs.Citing.{numbers_of}
use Rattle.line_wire.specs.declared.reply.LineReply.{LineReply}
use Rattle.pcfs_store.specs.Entries.{Root, StoreEntry, happened, stopped, state_of_entries}
use Rattle.session_history.specs.declared.request.TurnRequest.{TurnRequest}
use Rattle.session_history.specs.declared.request.TurnRequest.TheVariants.{Step, Cite}
use Rattle.session_history.specs.declared.reply.TurnReply.{TurnReply}
use Rattle.session_history.specs.declared.reply.TurnReply.TheVariants as turn_replies
use Rattle.session_history.specs.declared.task.LineTask.{LineTask}
use Rattle.session_history.specs.declared.task.LineTask.TheVariants as tasks
use Rattle.session_history.specs.SessionState.{SessionState}
use Rattle.session_history.specs.Turn.{StorePass, event_of, AnswersTurn, Turn}
use Rattle.session_history.specs.Turn as turns
use Rattle.session_history.specs.Tasks.{IsTaskOf}
use Rattle.session_history.specs.Placed.{LinePlaced, at_once, in_a_turn, proves_none, issues, LinesPlaced, no_line, one_more}
use Rattle.session_history.specs.Placed as places
use Rattle.session_history.specs.Laws.{Asks, in_one_turn, by_a_proof, IsAskedFor, asked_entry, AreAskedFor}

-- ---- what an answer adds is no mark

abbrev IsPlain : ℕ → Option StoreEntry → Type 0
IsPlain pass None = Unit {0}
IsPlain pass (Some entry) = (asked_entry entry ≡ entry) × (asked_entry (stopped pass (event_of entry)) ≡ entry)

plain_event : (pass : ℕ) (event : Option Event) → IsPlain pass (option_map happened event)
plain_event pass None = tt
plain_event pass (Some event) = (refl, refl)

plain : (root : Root) (state : BaseView) (pass : ℕ) (clock : ℤ) (request : TurnRequest) (reply : TurnReply) (entry : Option StoreEntry) → AnswersTurn root state pass clock request reply entry → IsPlain pass entry
plain root state pass clock _ _ _ (turns.steps request reply event answers) = plain_event pass event
plain root state pass clock _ _ _ turns.makes = (refl, refl)
plain root state pass clock _ _ _ (turns.cites numbers cited found) = tt
plain root state pass clock _ _ _ (turns.cites_none numbers number absent) = tt
plain root state pass clock _ _ _ (turns.logs_in who nonce signature is) = tt
plain root state pass clock _ _ _ (turns.rejects who nonce signature is) = tt

-- ---- what a turn adds

-- the answer to what the turn asks adds the entry
record Adds (gives : List StoreEntry → ℤ → Type 0) (p : StorePass) (found : List StoreEntry) (request : TurnRequest) (entry : StoreEntry) : Type 0 where
  moment : ℤ
  shown : gives found moment
  answer : TurnReply
  answers : AnswersTurn p.root (state_of_entries p.root found) p.number moment request answer (Some entry)

-- so it does of the only entry that is added, if one is
abbrev AddsOne : (List StoreEntry → ℤ → Type 0) → StorePass → List StoreEntry → TurnRequest → List StoreEntry → Type 0
AddsOne gives p found request [] = Unit {0}
AddsOne gives p found request (entry ∷ []) = Adds gives p found request (asked_entry entry)
AddsOne gives p found request (entry ∷ next ∷ more) = ⊥

turn_adds : (gives : List StoreEntry → ℤ → Type 0) (p : StorePass) (before : List StoreEntry) (request : TurnRequest) (reply : TurnReply) (given : List StoreEntry) → Turn gives p before request reply given →
    AddsOne gives p before request given
turn_adds gives p before request _ _ (turns.was_stopped is) = tt
turn_adds gives p before request _ _ (turns.answered clock answer running shown answers) = tt
turn_adds gives p before request _ _ (turns.full clock answer entry running shown answers is_full) = tt
turn_adds gives p before request _ _ (turns.kept clock answer entry running shown answers room) =
    subst (Adds gives p before request) (sym (plain p.root (state_of_entries p.root before) p.number clock request answer (Some entry) answers).0) (record { moment = clock; shown = shown; answer = answer; answers = answers })
turn_adds gives p before request _ _ (turns.failed clock answer entry running shown answers room) =
    subst (Adds gives p before request) (sym (plain p.root (state_of_entries p.root before) p.number clock request answer (Some entry) answers).1) (record { moment = clock; shown = shown; answer = answer; answers = answers })
turn_adds gives p before request _ _ turns.without_memory = tt

-- a turn for statements adds nothing
cites_add_none : (root : Root) (state : BaseView) (pass : ℕ) (clock : ℤ) (numbers : List ℕ) (reply : TurnReply) (found : Option StoreEntry) (entry : StoreEntry) → AnswersTurn root state pass clock (Cite numbers) reply found → found ≡ Some entry → ⊥
cites_add_none root state pass clock _ _ _ entry (turns.cites numbers cited are) is = cc
cites_add_none root state pass clock _ _ _ entry (turns.cites_none numbers number absent) is = cc

-- ---- the statements that a turn gives have the numbers that it asks for

numbers_answered : (root : Root) (state : BaseView) (pass : ℕ) (clock : ℤ) (numbers : List ℕ) (reply : TurnReply) (entry : Option StoreEntry) (cites : List Citation) → AnswersTurn root state pass clock (Cite numbers) reply entry → reply ≡ turn_replies.Cited cites → numbers_of cites ≡ numbers
numbers_answered root state pass clock _ _ _ cites (turns.cites numbers cited found) is = let same : cited ≡ cites = cc in subst (λ (cs : List Citation). numbers_of cs ≡ numbers) same found.numbers_are
numbers_answered root state pass clock _ _ _ cites (turns.cites_none numbers number absent) is = absurd cc

numbers_cited : (gives : List StoreEntry → ℤ → Type 0) (p : StorePass) (before : List StoreEntry) (numbers : List ℕ) (cites : List Citation) (reply : TurnReply) (given : List StoreEntry) → Turn gives p before (Cite numbers) reply given → reply ≡ turn_replies.Cited cites → numbers_of cites ≡ numbers
numbers_cited gives p before numbers cites _ _ (turns.was_stopped stop) is = absurd cc
numbers_cited gives p before numbers cites _ _ (turns.answered clock answer running shown answers) is = numbers_answered p.root (state_of_entries p.root before) p.number clock numbers answer None cites answers is
numbers_cited gives p before numbers cites _ _ (turns.full clock answer entry running shown answers is_full) is = absurd cc
numbers_cited gives p before numbers cites _ _ (turns.kept clock answer entry running shown answers room) is = numbers_answered p.root (state_of_entries p.root before) p.number clock numbers answer (Some entry) cites answers is
numbers_cited gives p before numbers cites _ _ (turns.failed clock answer entry running shown answers room) is = absurd cc
numbers_cited gives p before numbers cites _ _ turns.without_memory is = absurd cc

-- ---- what a line adds

module _ (gives : List StoreEntry → ℤ → Type 0) (p : StorePass) (history : List StoreEntry) (start : SessionState) (from : ℕ) where
  asked : (heard : List (List ℕ)) (told : List LineReply) (s : SessionState) (at : ℕ) (added : List StoreEntry) (line : List ℕ) (task : LineTask) (request : TurnRequest) (found after : List StoreEntry) (entry : StoreEntry) →
      LinesPlaced gives p history start from heard told s at added → IsTaskOf s line task → Asks task request → history ≡ found ++ (entry ∷ after) → Adds gives p found request (asked_entry entry) → IsAskedFor gives p history start from (heard ++ line ∷ []) entry
  asked heard told s at added line task request found after entry placed is_task asks parts adds = record {
    earlier = heard;
    line = line;
    later = [];
    among = refl;
    told = told;
    state = s;
    at = at;
    added = added;
    so_far = placed;
    task = task;
    is_task = is_task;
    request = request;
    asks = asks;
    found = found;
    begins = (after, append_assoc found (entry ∷ []) after ∙ sym parts);
    moment = adds.moment;
    shown = adds.shown;
    answer = adds.answer;
    answers = adds.answers;
  }

  module _ (heard : List (List ℕ)) (told : List LineReply) (s : SessionState) (at : ℕ) (added : List StoreEntry) (line : List ℕ) (placed : LinesPlaced gives p history start from heard told s at added) where
    all_asked : (task : LineTask) (request : TurnRequest) (found after : List StoreEntry) → IsTaskOf s line task → Asks task request → (given : List StoreEntry) → history ≡ found ++ (given ++ after) →
        AddsOne gives p found request given → AreAskedFor gives p history start from (heard ++ line ∷ []) given
    all_asked task request found after is_task asks [] parts adds = tt
    all_asked task request found after is_task asks (entry ∷ []) parts adds =
        (asked heard told s at added line task request found after entry placed is_task asks parts adds, tt)
    all_asked task request found after is_task asks (entry ∷ next ∷ more) parts adds = absurd adds

    none_asked : (numbers : List ℕ) (found given : List StoreEntry) → AddsOne gives p found (Cite numbers) given → AreAskedFor gives p history start from (heard ++ line ∷ []) given
    none_asked numbers found [] adds = tt
    none_asked numbers found (entry ∷ []) adds =
        absurd (cites_add_none p.root (state_of_entries p.root found) p.number adds.moment numbers adds.answer (Some (asked_entry entry)) (asked_entry entry) adds.answers refl)
    none_asked numbers found (entry ∷ next ∷ more) adds = absurd adds

    line_asked : (place : ℕ) (task : LineTask) (reply : LineReply) (to : ℕ) (given : List StoreEntry) → IsTaskOf s line task → LinePlaced gives p history place task reply to given → AreAskedFor gives p history start from (heard ++ line ∷ []) given
    line_asked place _ _ _ _ is_task (at_once reply) = tt
    line_asked place _ _ _ _ is_task (in_a_turn request replied reply to given turn is) =
        all_asked (tasks.Turn request) request turn.before turn.after is_task (in_one_turn request) given turn.parts (turn_adds gives p turn.before request replied given turn.turn)
    line_asked place _ _ _ _ is_task (places.cites_none goal numbers proof replied reply to given turn is) = none_asked numbers turn.before given (turn_adds gives p turn.before (Cite numbers) replied given turn.turn)
    line_asked place _ _ _ _ is_task (proves_none goal numbers proof cites fault to turn verdict_is) = tt
    line_asked place _ _ _ _ is_task (issues goal numbers proof cites g mid replied reply to given turn verdict_is second is) =
        all_asked (tasks.Proof goal numbers proof) (Step (Issue (checked_view cites goal proof g))) second.before second.after is_task (by_a_proof goal numbers proof cites g (numbers_cited gives p turn.before numbers cites (turn_replies.Cited cites) [] turn.turn refl) verdict_is) given second.parts
        (turn_adds gives p second.before (Step (Issue (checked_view cites goal proof g))) replied given second.turn)
    line_asked place _ _ _ _ is_task (places.without_memory task) = tt

  -- ---- more lines

  asked_more : (heard more : List (List ℕ)) (entry : StoreEntry) → IsAskedFor gives p history start from heard entry → IsAskedFor gives p history start from (heard ++ more) entry
  asked_more heard more entry a = record {
    earlier = a.earlier;
    line = a.line;
    later = a.later ++ more;
    among = ap (λ (l : List (List ℕ)). l ++ more) a.among ∙ append_assoc a.earlier (a.line ∷ a.later) more;
    told = a.told;
    state = a.state;
    at = a.at;
    added = a.added;
    so_far = a.so_far;
    task = a.task;
    is_task = a.is_task;
    request = a.request;
    asks = a.asks;
    found = a.found;
    begins = a.begins;
    moment = a.moment;
    shown = a.shown;
    answer = a.answer;
    answers = a.answers;
  }

  all_more : (heard more : List (List ℕ)) (given : List StoreEntry) → AreAskedFor gives p history start from heard given → AreAskedFor gives p history start from (heard ++ more) given
  all_more heard more [] all = tt
  all_more heard more (entry ∷ given) all = (asked_more heard more entry all.0, all_more heard more given all.1)

  all_both : (heard : List (List ℕ)) (xs ys : List StoreEntry) → AreAskedFor gives p history start from heard xs → AreAskedFor gives p history start from heard ys → AreAskedFor gives p history start from heard (xs ++ ys)
  all_both heard [] ys one other = other
  all_both heard (x ∷ xs) ys one other = (one.0, all_both heard xs ys one.1 other)

  pub entries_asked : (heard : List (List ℕ)) (told : List LineReply) (end : SessionState) (to : ℕ) (given : List StoreEntry) → LinesPlaced gives p history start from heard told end to given → AreAskedFor gives p history start from heard given
  entries_asked _ _ _ _ _ no_line = tt
  entries_asked _ _ _ _ _ (one_more heard told s at given line task reply to more placed is_task here) =
      all_both (heard ++ line ∷ []) given more (all_more heard (line ∷ []) given (entries_asked heard told s at given placed)) (line_asked heard told s at given line placed at task reply to more is_task here)
