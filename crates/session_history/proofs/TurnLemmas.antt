-- A turn has an end, and over a lawful history one at a moment, if it is not disturbed.
use Rattle.std.proofs.Common.{◌≡◌, ◌∙◌, ◌+◌, ◌-◌, ◌^◌, ◌<◌, ◌≤◌, ◌⊎◌, inl, inr, ℕ, List, [], ◌∷◌, Bool, true, false, true≢false, Option, Some, None, length, refl, sym, ap, subst, arith}
use Rattle.std.specs.Prelude.{ℤ}
use Rattle.std.proofs.lemmas.Bool.{cases_lt}
use Rattle.policy_statement.specs.Messages.{login_message}
use Rattle.policy_statement.specs.Ring.{is_accepted}
use Rattle.journal_core.specs.Area.{area_limit}
use Rattle.journal_records.specs.EventSpelling.{event_spelling}
use Rattle.journal_records.specs.declared.event.Event.{Event}
use Rattle.access_history.specs.declared.reply.StepReply.TheVariants.{Rejected, Absent}
use Rattle.access_history.specs.declared.reply.Rejection.TheVariants.{BadSignature}
use Rattle.access_history.specs.Books.{book_of}
use Rattle.access_history.specs.Base.{BaseView}
use Rattle.access_history.specs.Lawful.{IsLawful}
use Rattle.access_history.specs.Replay.{replay}
use Rattle.access_history.proofs.AnswerableLemmas.{has_answer}
use Rattle.access_history.proofs.AnswerLemmas.{one_answer}
use Rattle.access_history.proofs.CitingLemmas.{IsToldOfNumbers, found_or_absent, found_once, absent_once, absent_not_found}
use Rattle.pcfs_store.specs.Entries.{Root, StoreEntry, happened, checkpointed, stopped, events_among, checkpoints_among, state_of_entries, used_by}
use Rattle.checkpoint_image.specs.ImageSpelling.{image_spelling}
use Rattle.std.specs.Option.{option_map}
use Rattle.session_history.specs.declared.request.TurnRequest.{TurnRequest}
use Rattle.session_history.specs.declared.request.TurnRequest.TheVariants as requests
use Rattle.session_history.specs.declared.reply.TurnReply.{TurnReply}
use Rattle.session_history.specs.declared.reply.TurnReply.TheVariants as turn_replies
use Rattle.session_history.specs.Passes.{has_stop}
use Rattle.session_history.specs.Turn.{StorePass, authority_of_root, AnswersTurn, steps, makes, cites, cites_none, logs_in, rejects, IsFullAfter, Turn, was_stopped, answered, full, kept, failed, without_memory, IsTurnFormed}
use Rattle.session_history.specs.Laws.{IsUndisturbed}

-- ---- some answer

-- what a turn asks has an answer, which is neither that memory ran out nor that the store is stopped
record HasTurnAnswer (root : Root) (state : BaseView) (pass : ℕ) (clock : ℤ) (request : TurnRequest) : Type 0 where
  answer : TurnReply
  entry : Option StoreEntry
  answers : AnswersTurn root state pass clock request answer entry
  calm : IsUndisturbed answer

module _ (root : Root) (state : BaseView) (pass : ℕ) (clock : ℤ) where
  cite_answer : (numbers : List ℕ) → IsToldOfNumbers (book_of state) numbers → HasTurnAnswer root state pass clock (requests.Cite numbers)
  cite_answer numbers (inl found) = record { answer = turn_replies.Cited found.0; entry = None; answers = cites numbers found.0 found.1; calm = record { had_memory = λ is. cc; not_stopped = λ is. cc } }
  cite_answer numbers (inr absent) = record { answer = turn_replies.Step (Absent absent.0); entry = None; answers = cites_none numbers absent.0 absent.1; calm = record { had_memory = λ is. cc; not_stopped = λ is. cc } }

  login_answer : (who nonce signature : List ℕ) (accepted : Bool) → is_accepted root.ring who (login_message who nonce) signature ≡ accepted → HasTurnAnswer root state pass clock (requests.Login who nonce signature)
  login_answer who nonce signature true is = record { answer = turn_replies.LoggedIn; entry = None; answers = logs_in who nonce signature is; calm = record { had_memory = λ same. cc; not_stopped = λ same. cc } }
  login_answer who nonce signature false is =
      record { answer = turn_replies.Step (Rejected BadSignature); entry = None; answers = rejects who nonce signature is; calm = record { had_memory = λ same. cc; not_stopped = λ same. cc } }

  turn_answer : (request : TurnRequest) → IsTurnFormed request → HasTurnAnswer root state pass clock request
  turn_answer (requests.Step request) formed =
      let some = has_answer (authority_of_root root) state pass clock request formed in
      record { answer = turn_replies.Step some.0; entry = option_map happened some.1; answers = steps request some.0 some.1 some.2; calm = record { had_memory = λ is. cc; not_stopped = λ is. cc } }
  turn_answer requests.Checkpoint formed = record { answer = turn_replies.Checkpointed; entry = Some (checkpointed pass); answers = makes; calm = record { had_memory = λ is. cc; not_stopped = λ is. cc } }
  turn_answer (requests.Cite numbers) formed = cite_answer numbers (found_or_absent (book_of state) numbers)
  turn_answer (requests.Login who nonce signature) formed = login_answer who nonce signature (is_accepted root.ring who (login_message who nonce) signature) refl

-- ---- room for another entry, or none

-- one of two bounds is passed, or neither
bounds : (used most number last : ℕ) → ((most < used) ⊎ (used ≤ most)) → ((number < last) ⊎ (last ≤ number)) → ((most < used) ⊎ (last ≤ number)) ⊎ ((most < used) ⊎ (last ≤ number) → ⊥)
bounds used most number last (inl long) numbers = inl (inl long)
bounds used most number last (inr short) (inr many) = inl (inr many)
bounds used most number last (inr short) (inl few) = inr both
  where
    both : (most < used) ⊎ (last ≤ number) → ⊥
    both (inl long) = absurd (omega (arith, long, short))
    both (inr many) = absurd (omega (arith, few, many))

is_full_or_not : (root : Root) (before : List StoreEntry) (entry : StoreEntry) → IsFullAfter root before entry ⊎ (IsFullAfter root before entry → ⊥)
is_full_or_not root before (happened event) =
    bounds (used_by root before + length (event_spelling event) + 6) area_limit (state_of_entries root before).count (2 ^ 48 - 1)
    (cases_lt area_limit (used_by root before + length (event_spelling event) + 6)) (cases_lt (state_of_entries root before).count (2 ^ 48 - 1))
is_full_or_not root before (checkpointed pass) =
    bounds (length (image_spelling (state_of_entries root before)) + 25) area_limit (root.generation + checkpoints_among before) (2 ^ 48 - 1)
    (cases_lt area_limit (length (image_spelling (state_of_entries root before)) + 25)) (cases_lt (root.generation + checkpoints_among before) (2 ^ 48 - 1))
is_full_or_not root before (stopped pass met) = inr (λ no. no)

-- ---- some end

module _ (gives : List StoreEntry → ℤ → Type 0) (p : StorePass) (before : List StoreEntry) (request : TurnRequest) (clock : ℤ) (shown : gives before clock) (running : has_stop before ≡ false) where
  abbrev HasEnd : Type 0
  HasEnd = (reply : TurnReply) × (given : List StoreEntry) × Turn gives p before request reply given × IsUndisturbed reply

  entry_ends : (answer : TurnReply) (entry : StoreEntry) → IsUndisturbed answer → AnswersTurn p.root (state_of_entries p.root before) p.number clock request answer (Some entry) →
      IsFullAfter p.root before entry ⊎ (IsFullAfter p.root before entry → ⊥) → HasEnd
  entry_ends answer entry calm answers (inl is_full) = (turn_replies.Full, [], full clock answer entry running shown answers is_full, record { had_memory = λ is. cc; not_stopped = λ is. cc })
  entry_ends answer entry calm answers (inr room) = (answer, entry ∷ [], kept clock answer entry running shown answers room, calm)

  answer_ends : (answer : TurnReply) (entry : Option StoreEntry) → IsUndisturbed answer → AnswersTurn p.root (state_of_entries p.root before) p.number clock request answer entry → HasEnd
  answer_ends answer None calm answers = (answer, [], answered clock answer running shown answers, calm)
  answer_ends answer (Some entry) calm answers = entry_ends answer entry calm answers (is_full_or_not p.root before entry)

  some_end : IsTurnFormed request → HasEnd
  some_end formed = let some = turn_answer p.root (state_of_entries p.root before) p.number clock request formed in answer_ends some.answer some.entry some.calm some.answers

pub turn_ends : (gives : List StoreEntry → ℤ → Type 0) (p : StorePass) (before : List StoreEntry) (request : TurnRequest) (clock : ℤ) → gives before clock → IsTurnFormed request → has_stop before ≡ false →
    (reply : TurnReply) × (given : List StoreEntry) × Turn gives p before request reply given × IsUndisturbed reply
turn_ends gives p before request clock shown formed running = some_end gives p before request clock shown running formed

-- ---- no end but one where the store is stopped

pub nothing_after_stop : (gives : List StoreEntry → ℤ → Type 0) (p : StorePass) (before : List StoreEntry) (request : TurnRequest) (reply : TurnReply) (given : List StoreEntry) → has_stop before ≡ true → Turn gives p before request reply given →
    (given ≡ []) × ((reply ≡ turn_replies.Stopped) ⊎ (reply ≡ turn_replies.NoMemory))
nothing_after_stop gives p before request _ _ stop (was_stopped is) = (refl, inl refl)
nothing_after_stop gives p before request _ _ stop (answered clock answer running shown answers) = absurd (true≢false (sym stop ∙ running))
nothing_after_stop gives p before request _ _ stop (full clock answer entry running shown answers is_full) = absurd (true≢false (sym stop ∙ running))
nothing_after_stop gives p before request _ _ stop (kept clock answer entry running shown answers room) = absurd (true≢false (sym stop ∙ running))
nothing_after_stop gives p before request _ _ stop (failed clock answer entry running shown answers room) = absurd (true≢false (sym stop ∙ running))
nothing_after_stop gives p before request _ _ stop without_memory = (refl, inr refl)

-- ---- one answer

one_turn_answer : (root : Root) (base : BaseView) (events : List Event) (pass : ℕ) (clock : ℤ) (request : TurnRequest) (first second : TurnReply) (entry other : Option StoreEntry) → IsLawful (authority_of_root root) base events →
    AnswersTurn root (replay base events) pass clock request first entry → AnswersTurn root (replay base events) pass clock request second other → (first ≡ second) × (entry ≡ other)
one_turn_answer root base events pass clock _ _ _ _ _ lawful (steps request reply event answers) (steps _ reply' event' answers') =
    let same = one_answer (authority_of_root root) base events pass clock request reply reply' event event' lawful answers answers' in (ap turn_replies.Step same.0, ap (option_map happened) same.1)
one_turn_answer root base events pass clock _ _ _ _ _ lawful makes makes = (refl, refl)
one_turn_answer root base events pass clock _ _ _ _ _ lawful (cites numbers cited found) (cites _ others found') =
    (ap turn_replies.Cited (found_once (book_of (replay base events)) numbers cited others found found'), refl)
one_turn_answer root base events pass clock _ _ _ _ _ lawful (cites numbers cited found) (cites_none _ number absent) = absurd (absent_not_found (book_of (replay base events)) numbers number cited absent found)
one_turn_answer root base events pass clock _ _ _ _ _ lawful (cites_none numbers number absent) (cites _ cited found) = absurd (absent_not_found (book_of (replay base events)) numbers number cited absent found)
one_turn_answer root base events pass clock _ _ _ _ _ lawful (cites_none numbers number absent) (cites_none _ other absent') =
    (ap (λ (n : ℕ). turn_replies.Step (Absent n)) (absent_once (book_of (replay base events)) numbers number other absent absent'), refl)
one_turn_answer root base events pass clock _ _ _ _ _ lawful (logs_in who nonce signature is) (logs_in _ _ _ is') = (refl, refl)
one_turn_answer root base events pass clock _ _ _ _ _ lawful (logs_in who nonce signature is) (rejects _ _ _ is') = absurd (true≢false (sym is ∙ is'))
one_turn_answer root base events pass clock _ _ _ _ _ lawful (rejects who nonce signature is) (logs_in _ _ _ is') = absurd (true≢false (sym is' ∙ is))
one_turn_answer root base events pass clock _ _ _ _ _ lawful (rejects who nonce signature is) (rejects _ _ _ is') = (refl, refl)

-- ---- one end

-- what becomes of an answer, with its entry if it has one, in a turn that is not disturbed
abbrev Comes : Root → List StoreEntry → TurnReply → Option StoreEntry → TurnReply → List StoreEntry → Type 0
Comes root before answer None reply given = (reply ≡ answer) × (given ≡ [])
Comes root before answer (Some entry) reply given =
    (IsFullAfter root before entry × (reply ≡ turn_replies.Full) × (given ≡ [])) ⊎ ((IsFullAfter root before entry → ⊥) × (reply ≡ answer) × (given ≡ entry ∷ []))

record ComesOf (p : StorePass) (before : List StoreEntry) (request : TurnRequest) (clock : ℤ) (reply : TurnReply) (given : List StoreEntry) : Type 0 where
  answer : TurnReply
  entry : Option StoreEntry
  answers : AnswersTurn p.root (state_of_entries p.root before) p.number clock request answer entry
  comes : Comes p.root before answer entry reply given

module _ (p : StorePass) (before : List StoreEntry) (request : TurnRequest) (clock : ℤ) where
  abbrev At : ℤ → Type 0
  At moment = moment ≡ clock

  -- the answer at that moment
  moved : (at : ℤ) (answer : TurnReply) (entry : Option StoreEntry) → at ≡ clock → AnswersTurn p.root (state_of_entries p.root before) p.number at request answer entry → AnswersTurn p.root (state_of_entries p.root before) p.number clock request answer entry
  moved at answer entry same answers = subst (λ (moment : ℤ). AnswersTurn p.root (state_of_entries p.root before) p.number moment request answer entry) same answers

  comes_of : (reply : TurnReply) (given : List StoreEntry) → Turn (λ _ moment. moment ≡ clock) p before request reply given → IsUndisturbed reply → ComesOf p before request clock reply given
  comes_of _ _ (was_stopped is) calm = absurd (calm.not_stopped refl)
  comes_of _ _ (answered at reply running same answers) calm = record { answer = reply; entry = None; answers = moved at reply None same answers; comes = (refl, refl) }
  comes_of _ _ (full at reply entry running same answers is_full) calm = record { answer = reply; entry = Some entry; answers = moved at reply (Some entry) same answers; comes = inl (is_full, refl, refl) }
  comes_of _ _ (kept at reply entry running same answers room) calm = record { answer = reply; entry = Some entry; answers = moved at reply (Some entry) same answers; comes = inr (room, refl, refl) }
  comes_of _ _ (failed at reply entry running same answers room) calm = absurd (calm.not_stopped refl)
  comes_of _ _ without_memory calm = absurd (calm.had_memory refl)

comes_once : (root : Root) (before : List StoreEntry) (answer : TurnReply) (entry : Option StoreEntry) (first second : TurnReply) (given other : List StoreEntry) →
    Comes root before answer entry first given → Comes root before answer entry second other → (first ≡ second) × (given ≡ other)
comes_once root before answer None first second given other one two = (one.0 ∙ sym two.0, one.1 ∙ sym two.1)
comes_once root before answer (Some entry) first second given other (inl one) (inl two) = (one.1 ∙ sym two.1, one.2 ∙ sym two.2)
comes_once root before answer (Some entry) first second given other (inl one) (inr two) = absurd (two.0 one.0)
comes_once root before answer (Some entry) first second given other (inr one) (inl two) = absurd (one.0 two.0)
comes_once root before answer (Some entry) first second given other (inr one) (inr two) = (one.1 ∙ sym two.1, one.2 ∙ sym two.2)

pub turn_ends_once : (p : StorePass) (before : List StoreEntry) (request : TurnRequest) (clock : ℤ) (first second : TurnReply) (given other : List StoreEntry) →
    IsLawful (authority_of_root p.root) p.root.base (events_among before) → Turn (λ _ moment. moment ≡ clock) p before request first given → IsUndisturbed first →
    Turn (λ _ moment. moment ≡ clock) p before request second other → IsUndisturbed second → (first ≡ second) × (given ≡ other)
turn_ends_once p before request clock first second given other lawful one calm two calm' =
    let a = comes_of p before request clock first given one calm in
    let b = comes_of p before request clock second other two calm' in
    let same = one_turn_answer p.root p.root.base (events_among before) p.number clock request a.answer b.answer a.entry b.entry lawful a.answers b.answers in
    comes_once p.root before b.answer b.entry first second given other
    (subst (λ (r : TurnReply). Comes p.root before r b.entry first given) same.0 (subst (λ (e : Option StoreEntry). Comes p.root before a.answer e first given) same.1 a.comes)) b.comes
