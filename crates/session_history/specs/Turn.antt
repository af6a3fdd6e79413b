-- One turn at a store: what it replies that finds these entries, and which entries it adds at their
-- end (this project's own).
use Rattle.std.specs.Prelude.{◌≡◌, ◌⊎◌, ℕ, ℤ, ◌+◌, ◌<◌, ◌≤◌, List, [], ◌∷◌, ◌++◌, length, true, false, Option, Some, None}
use Rattle.bl_syntax.specs.Citable.{AreCitable}
use Rattle.policy_statement.specs.Messages.{login_message}
use Rattle.policy_statement.specs.Ring.{is_accepted}
use Rattle.proof_verifier.specs.declared.cites.Cite.{Cite}
use Rattle.journal_records.specs.declared.event.Event.{Event}
use Rattle.access_history.specs.declared.request.StepRequest.{StepRequest}
use Rattle.access_history.specs.declared.reply.StepReply.{StepReply}
use Rattle.access_history.specs.declared.reply.StepReply.TheVariants.{Rejected, Absent}
use Rattle.access_history.specs.declared.reply.Rejection.TheVariants.{BadSignature}
use Rattle.access_history.specs.Base.{BaseView}
use Rattle.access_history.specs.Authority.{Authority}
use Rattle.access_history.specs.Books.{book_of}
use Rattle.access_history.specs.History.{authority_with}
use Rattle.access_history.specs.Citing.{AreFound, IsAbsent}
use Rattle.access_history.specs.Answer.{Answers}
use Rattle.access_history.specs.WellFormed.{IsWellFormed}
use Rattle.pcfs_store.specs.StoredHistory.{IsFull}
use Rattle.pcfs_store.specs.Entries.{Root, StoreEntry, happened, checkpointed, stopped, state_of_entries, checkpoints_among, used_by}
use Rattle.checkpoint_image.specs.ImageSpelling.{image_spelling}
use Rattle.journal_core.specs.Area.{area_limit}
use Rattle.std.specs.Option.{option_map}
use Rattle.bl_syntax.specs.declared.limits.TheConstants.{MOST_EVENTS}
use Rattle.session_history.specs.Passes.{has_stop}
use Rattle.session_history.specs.declared.request.TurnRequest.{TurnRequest}
use Rattle.session_history.specs.declared.request.TurnRequest.TheVariants as requests
use Rattle.session_history.specs.declared.reply.TurnReply.{TurnReply}
use Rattle.session_history.specs.declared.reply.TurnReply.TheVariants as turn_replies

-- whose turn it is: a pass with this number, at a store that was opened with this root
pub record StorePass : Type 0 where
  pub root : Root
  pub number : ℕ

-- under whose key procaps are sealed, and whose signatures are accepted
abbrev pub authority_of_root : Root → Authority
authority_of_root root = authority_with root.key root.ring

-- The answer to what a turn asks, over a state, and the entry to add if there is one: the event of
-- a step, or a checkpoint. The statements of numbers are given, or the first number that has none.
-- A login is accepted exactly if
-- the ring accepts the signature over the login message, which has the nonce in it.
pub data AnswersTurn (root : Root) (state : BaseView) (pass : ℕ) (clock : ℤ) : TurnRequest →
    TurnReply → Option StoreEntry → Type 0 where
  steps : (request : StepRequest) (reply : StepReply) (event : Option Event) →
      Answers (authority_of_root root) state pass clock request reply event →
      AnswersTurn root state pass clock (requests.Step request) (turn_replies.Step reply) (option_map happened event)
  makes : AnswersTurn root state pass clock requests.Checkpoint turn_replies.Checkpointed (Some (checkpointed pass))
  cites : (numbers : List ℕ) (cited : List Cite) → AreFound (book_of state) numbers cited →
      AnswersTurn root state pass clock (requests.Cite numbers) (turn_replies.Cited cited) None
  cites_none : (numbers : List ℕ) (number : ℕ) → IsAbsent (book_of state) numbers number →
      AnswersTurn root state pass clock (requests.Cite numbers) (turn_replies.Step (Absent number)) None
  logs_in : (who nonce signature : List ℕ) →
      is_accepted root.ring who (login_message who nonce) signature ≡ true →
      AnswersTurn root state pass clock (requests.Login who nonce signature) turn_replies.LoggedIn None
  rejects : (who nonce signature : List ℕ) →
      is_accepted root.ring who (login_message who nonce) signature ≡ false →
      AnswersTurn root state pass clock (requests.Login who nonce signature) (turn_replies.Step (Rejected BadSignature)) None

-- After these entries there is no room for another: in the area for the record of an event, or no
-- number for it; in an area for the image of the state, or no next generation for a checkpoint. No
-- turn asks for a mark.
abbrev pub IsFullAfter : Root → List StoreEntry → StoreEntry → Type 0
IsFullAfter root before (happened event) = IsFull (used_by root before) (state_of_entries root before).count event
IsFullAfter root before (checkpointed pass) = (area_limit < length (image_spelling (state_of_entries root before)) + 25) ⊎
    (MOST_EVENTS ≤ root.generation + checkpoints_among before)
IsFullAfter root before (stopped pass met) = ⊥

-- the event that an entry has, if it has one
abbrev pub event_of : StoreEntry → Option Event
event_of (happened event) = Some event
event_of (checkpointed pass) = None
event_of (stopped pass met) = met

-- What becomes of a turn of the pass that finds these entries, and asks this: its reply, and the
-- entries that it adds. The first case that applies is the one; out of memory may be replied in
-- each. `gives` says which moments the
-- clock gives to who has a store with these entries in hand; the turn reads one of those that are
-- given over the entries that it finds. So what was read before an entry came is no reading of a
-- turn after it.
pub data Turn (gives : List StoreEntry → ℤ → Type 0) (p : StorePass) (before : List StoreEntry)
    (request : TurnRequest) : TurnReply → List StoreEntry → Type 0 where
  -- the store was stopped, and nothing is decided
  was_stopped : has_stop before ≡ true → Turn gives p before request turn_replies.Stopped []
  -- the answer keeps nothing
  answered : (clock : ℤ) (answer : TurnReply) → has_stop before ≡ false → gives before clock →
      AnswersTurn p.root (state_of_entries p.root before) p.number clock request answer None →
      Turn gives p before request answer []
  -- what the answer adds does not fit
  full : (clock : ℤ) (answer : TurnReply) (entry : StoreEntry) → has_stop before ≡ false →
      gives before clock →
      AnswersTurn p.root (state_of_entries p.root before) p.number clock request answer (Some entry) →
      IsFullAfter p.root before entry → Turn gives p before request turn_replies.Full []
  -- what the answer adds is kept
  kept : (clock : ℤ) (answer : TurnReply) (entry : StoreEntry) → has_stop before ≡ false →
      gives before clock →
      AnswersTurn p.root (state_of_entries p.root before) p.number clock request answer (Some entry) →
      (IsFullAfter p.root before entry → ⊥) → Turn gives p before request answer (entry ∷ [])
  -- a disk fails under what the answer adds: the mark has the event that was being kept, if it is
  -- one
  failed : (clock : ℤ) (answer : TurnReply) (entry : StoreEntry) → has_stop before ≡ false →
      gives before clock →
      AnswersTurn p.root (state_of_entries p.root before) p.number clock request answer (Some entry) →
      (IsFullAfter p.root before entry → ⊥) →
      Turn gives p before request turn_replies.Stopped (stopped p.number (event_of entry) ∷ [])
  -- memory ran out
  without_memory : Turn gives p before request turn_replies.NoMemory []

-- The turn has its place in a history, not before the first `from` entries: it found those before
-- it, and added the given ones. `to` is how many entries there are then. What the history has after
-- them may be of others.
pub record TurnPlaced (gives : List StoreEntry → ℤ → Type 0) (p : StorePass) (history : List StoreEntry) (from : ℕ)
    (request : TurnRequest) (reply : TurnReply) (to : ℕ) (given : List StoreEntry) : Type 0 where
  pub before : List StoreEntry
  pub after : List StoreEntry
  pub parts : history ≡ before ++ (given ++ after)
  pub not_earlier : from ≤ length before
  pub place : to ≡ length before + length given
  pub turn : Turn gives p before request reply given

-- what a turn may ask: a request that is well formed, and numbers that can be cited
abbrev pub IsTurnFormed : TurnRequest → Type 0
IsTurnFormed (requests.Step request) = IsWellFormed request
IsTurnFormed (requests.Cite numbers) = AreCitable numbers
IsTurnFormed requests.Checkpoint = Unit {0}
IsTurnFormed (requests.Login who nonce signature) = Unit {0}
