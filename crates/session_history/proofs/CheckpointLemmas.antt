-- A turn is told that a checkpoint was made exactly if it adds one.
use Rattle.std.proofs.Common.{◌≡◌, ℕ, List, [], ◌∷◌, Option, Some, None, refl}
use Rattle.std.specs.Prelude.{ℤ, ◌≢◌}
use Rattle.std.specs.Option.{option_map}
use Rattle.journal_records.specs.declared.event.Event.{Event}
use Rattle.access_history.specs.Base.{BaseView}
use Rattle.pcfs_store.specs.Entries.{Root, StoreEntry, happened, checkpointed, checkpoints_among, state_of_entries}
use Rattle.session_history.specs.declared.request.TurnRequest.{TurnRequest}
use Rattle.session_history.specs.declared.request.TurnRequest.TheVariants as turn_requests
use Rattle.session_history.specs.declared.reply.TurnReply.{TurnReply}
use Rattle.session_history.specs.declared.reply.TurnReply.TheVariants as turn_replies
use Rattle.session_history.specs.Turn.{StorePass, AnswersTurn, steps, makes, cites, cites_none, logs_in, rejects, Turn, was_stopped, answered, full, kept, failed}
use Rattle.session_history.specs.Turn as turns
use Rattle.session_history.proofs.StopLemmas.{those_of}

-- ---- what is told

makes_it : (root : Root) (state : BaseView) (pass : ℕ) (clock : ℤ) (request : TurnRequest) (reply : TurnReply) (entry : Option StoreEntry) → AnswersTurn root state pass clock request reply entry → reply ≡ turn_replies.Checkpointed →
    (request ≡ turn_requests.Checkpoint) × (those_of entry ≡ checkpointed pass ∷ [])
makes_it root state pass clock _ _ _ (steps request reply event answers) is = absurd cc
makes_it root state pass clock _ _ _ makes is = (refl, refl)
makes_it root state pass clock _ _ _ (cites numbers cited found) is = absurd cc
makes_it root state pass clock _ _ _ (cites_none numbers number absent) is = absurd cc
makes_it root state pass clock _ _ _ (logs_in who nonce signature accepted) is = absurd cc
makes_it root state pass clock _ _ _ (rejects who nonce signature refused) is = absurd cc

no_entry : (pass : ℕ) → ◌≡◌ {A = List StoreEntry} [] (checkpointed pass ∷ []) → ⊥
no_entry pass is = cc

told : (gives : List StoreEntry → ℤ → Type 0) (p : StorePass) (before : List StoreEntry) (request : TurnRequest) (reply : TurnReply) (given : List StoreEntry) → Turn gives p before request reply given → reply ≡ turn_replies.Checkpointed →
    (request ≡ turn_requests.Checkpoint) × (given ≡ checkpointed p.number ∷ [])
told gives p before request _ _ (was_stopped stop) is = absurd cc
told gives p before request _ _ (answered clock reply running shown answers) is = absurd (no_entry p.number (makes_it p.root (state_of_entries p.root before) p.number clock request reply None answers is).1)
told gives p before request _ _ (full clock reply entry running shown answers is_full) is = absurd cc
told gives p before request _ _ (kept clock reply entry running shown answers room) is = makes_it p.root (state_of_entries p.root before) p.number clock request reply (Some entry) answers is
told gives p before request _ _ (failed clock reply entry running shown answers room) is = absurd cc
told gives p before request _ _ turns.without_memory is = absurd cc

-- ---- what is added

event_alone : (event : Option Event) → checkpoints_among (those_of (option_map happened event)) ≡ 0
event_alone None = refl
event_alone (Some event) = refl

adds_it : (root : Root) (state : BaseView) (pass : ℕ) (clock : ℤ) (request : TurnRequest) (reply : TurnReply) (entry : Option StoreEntry) → AnswersTurn root state pass clock request reply entry → checkpoints_among (those_of entry) ≢ 0 → reply ≡ turn_replies.Checkpointed
adds_it root state pass clock _ _ _ (steps request reply event answers) some = absurd (some (event_alone event))
adds_it root state pass clock _ _ _ makes some = refl
adds_it root state pass clock _ _ _ (cites numbers cited found) some = absurd (some refl)
adds_it root state pass clock _ _ _ (cites_none numbers number absent) some = absurd (some refl)
adds_it root state pass clock _ _ _ (logs_in who nonce signature accepted) some = absurd (some refl)
adds_it root state pass clock _ _ _ (rejects who nonce signature refused) some = absurd (some refl)

added : (gives : List StoreEntry → ℤ → Type 0) (p : StorePass) (before : List StoreEntry) (request : TurnRequest) (reply : TurnReply) (given : List StoreEntry) → Turn gives p before request reply given → checkpoints_among given ≢ 0 → reply ≡ turn_replies.Checkpointed
added gives p before request _ _ (was_stopped stop) some = absurd (some refl)
added gives p before request _ _ (answered clock reply running shown answers) some = absurd (some refl)
added gives p before request _ _ (full clock reply entry running shown answers is_full) some = absurd (some refl)
added gives p before request _ _ (kept clock reply entry running shown answers room) some = adds_it p.root (state_of_entries p.root before) p.number clock request reply (Some entry) answers some
added gives p before request _ _ (failed clock reply entry running shown answers room) some = absurd (some refl)
added gives p before request _ _ turns.without_memory some = absurd (some refl)

pub checkpoints_told : (gives : List StoreEntry → ℤ → Type 0) (p : StorePass) (before : List StoreEntry) (request : TurnRequest) (reply : TurnReply) (given : List StoreEntry) → Turn gives p before request reply given →
    (reply ≡ turn_replies.Checkpointed → (request ≡ turn_requests.Checkpoint) × (given ≡ checkpointed p.number ∷ [])) × (checkpoints_among given ≢ 0 → reply ≡ turn_replies.Checkpointed)
checkpoints_told gives p before request reply given turn = (λ is. told gives p before request reply given turn is, λ some. added gives p before request reply given turn some)
